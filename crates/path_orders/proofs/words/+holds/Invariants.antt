use Rattle.std.proofs.Common.{◌≡◌, take}
use Rattle.std.specs.List.{sum_by}
use Rattle.labelled_trees.specs.Leaves.{occurs}
use Rattle.labelled_trees.specs.Meaning.{tree_of}
use Rattle.path_orders.proofs.words.+holds.Given as goal

abbrev pub decreases-holds : goal.decreases-holds
decreases-holds l = goal.size-holds l

abbrev pub invariant-loop-input : goal.invariant-loop-input
invariant-loop-input l = sum_by (λ t. occurs l.number (tree_of t)) (take l.input-index l.input-items) ≡ 0
