use Rattle.std.proofs.Common.{◌≡◌, min, take}
use Rattle.std.specs.List.{sum_by}
use Rattle.labelled_trees.specs.Leaves.{occurs}
use Rattle.labelled_trees.specs.Meaning.{tree_of}
use Rattle.symmetric_sums.proofs.expanding.+holes.Given as goal

abbrev pub decreases-holes : goal.decreases-holes
decreases-holes l = goal.size-holes l

abbrev pub invariant-loop-input : goal.invariant-loop-input
invariant-loop-input l = l.found ≡ min 2 (sum_by (λ t. occurs 0 (tree_of t)) (take l.input-index l.input-items))
