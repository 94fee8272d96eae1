use Rattle.std.proofs.Common.{◌≡◌, take}
use Rattle.std.specs.List.{sum_by}
use Rattle.labelled_trees.specs.Leaves.{leaf_count}
use Rattle.labelled_trees.specs.Meaning.{tree_of}
use Rattle.shuffle_trees.proofs.stree.+count_leaves.Given as goal

abbrev pub decreases-count_leaves : goal.decreases-count_leaves
decreases-count_leaves l = goal.size-count_leaves l

abbrev pub invariant-loop-input : goal.invariant-loop-input
invariant-loop-input l = l.count ≡ sum_by (λ t. leaf_count (tree_of t)) (take l.input-index l.input-items)
