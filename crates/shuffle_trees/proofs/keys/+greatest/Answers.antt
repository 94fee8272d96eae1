use Rattle.std.proofs.Common.{◌≡◌, ◌≤◌, sym, ◌∙◌, subst, take}
use Rattle.std.proofs.lemmas.List.{take_all}
use Rattle.labelled_trees.specs.Meaning.{tree_of}
use Rattle.labelled_trees.specs.Leaves.{AllLeaves}
use Rattle.labelled_trees.proofs.ProgramTrees.{all_leaves-node}
use Rattle.shuffle_trees.proofs.Walking.{AreWithin, within_next}
use Rattle.shuffle_trees.proofs.keys.+greatest.Goals as goal

pub loop-input-preserved : goal.loop-input-preserved
loop-input-preserved t c = within_next c.loop-input.most c.greatest.result c.greater-most.result c.as_slice-input-items.result.now c.loop-input.input-index c.input-item.result c.loop-input-test.true c.input-item.is
    c.loop-input.invariant c.greatest.ensures c.greater-most.ensures.one c.greater-most.ensures.other

pub returns-after-loop-input : goal.returns-after-loop-input
returns-after-loop-input t c =
    let i = c.loop-input.input-index in
    let all : take i c.as_slice-input-items.result.now ≡ c.in-Node.inputs = take_all i c.as_slice-input-items.result.now c.loop-input-test.false ∙ c.as_slice-input-items.ensures in
    subst (λ u. AllLeaves (tree_of u) (λ i. i ≤ c.loop-input.most)) (sym c.in-Node.is) (all_leaves-node c.in-Node.field-0 c.in-Node.inputs (λ i. i ≤ c.loop-input.most) (subst (AreWithin c.loop-input.most) all c.loop-input.invariant))
