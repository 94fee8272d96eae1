use Rattle.std.proofs.Common.{◌∙◌, ap, min, sym}
use Rattle.std.proofs.lemmas.List.{take_all}
use Rattle.std.specs.List.{sum_by}
use Rattle.labelled_trees.specs.Leaves.{occurs}
use Rattle.labelled_trees.specs.Meaning.{tree_of}
use Rattle.labelled_trees.proofs.ProgramTrees.{sum_leaves-node}
use Rattle.symmetric_sums.proofs.expanding.+holes.Goals as goal

pub returns-after-loop-input : goal.returns-after-loop-input
returns-after-loop-input t c =
    let all = take_all c.loop-input.input-index c.as_slice-input-items.result.now c.loop-input-test.false ∙ c.as_slice-input-items.ensures in
    c.loop-input.invariant ∙ ap (λ ts. min 2 (sum_by (λ u. occurs 0 (tree_of u)) ts)) all ∙ ap (min 2) (sym (sum_leaves-node c.in-Node.field-0 c.in-Node.inputs _) ∙ ap (λ u. occurs 0 (tree_of u)) (sym c.in-Node.is))
