use Rattle.std.proofs.Common.{◌≡◌, ◌+◌, take}
use Rattle.std.specs.List.{sum_by}
use Rattle.labelled_trees.specs.Meaning.{tree_of}
use Rattle.shuffle_insertions.specs.Keys.{weight}
use Rattle.path_orders.specs.SeenKeys.{weight_in}
use Rattle.path_orders.proofs.weights.+weigh_tree.Given as goal

abbrev pub decreases-weigh_tree : goal.decreases-weigh_tree
decreases-weigh_tree l = goal.size-weigh_tree l

abbrev pub invariant-loop-input : goal.invariant-loop-input
invariant-loop-input l = l.sum ≡ l.initial.sum + sum_by (λ t. weight (weight_in l.weights) (tree_of t)) (take l.input-index l.input-items)
