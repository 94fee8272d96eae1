use Rattle.std.specs.Prelude.{◌≡◌, ◌++◌}
use Rattle.std.proofs.Common.{drop}
use Rattle.shuffle_trees.proofs.Walking.{leaves_of}
use Rattle.shuffle_trees.proofs.keys.+push_leaves.Given as goal

abbrev pub decreases-push_leaves : goal.decreases-push_leaves
decreases-push_leaves l = goal.size-push_leaves l

abbrev pub invariant-loop-input : goal.invariant-loop-input
invariant-loop-input l = l.row ++ leaves_of (drop l.input-index l.input-items) ≡ l.fn.row ++ leaves_of l.input-items
