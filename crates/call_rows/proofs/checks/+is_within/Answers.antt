use Rattle.std.proofs.Common.{◌<◌, ◌≤◌, ◌∙◌, sym, subst}
use Rattle.std.proofs.lemmas.List.{take_all}
use Rattle.std.specs.List.{AllByRecursion}
use Rattle.labelled_trees.specs.Leaves.{AllLeaves}
use Rattle.labelled_trees.specs.Meaning.{tree_of}
use Rattle.labelled_trees.proofs.ProgramTrees.{all_leaves-node}
use Rattle.call_rows.proofs.checks.+is_within.Goals as goal

pub returns-after-loop-input : goal.returns-after-loop-input
returns-after-loop-input t c e =
    let all = take_all c.loop-input.input-index c.as_slice-input-items.result.now c.loop-input-test.false ∙ c.as_slice-input-items.ensures in
    subst (λ u. AllLeaves (tree_of u) (λ i. (0 < i) × (i ≤ c.args.most))) (sym c.in-Node.is)
    (all_leaves-node _ c.in-Node.inputs (λ i. (0 < i) × (i ≤ c.args.most)) (subst (AllByRecursion (λ u. AllLeaves (tree_of u) (λ i. (0 < i) × (i ≤ c.args.most)))) all c.loop-input.invariant))
