use Rattle.std.proofs.Common.{◌≡◌, ◌+◌, ◌++◌, length, take, drop}
use Rattle.shuffle_trees.proofs.Walking.{leaves_of}
use Rattle.path_orders.proofs.rows.+write_leaves.Given as goal

abbrev pub decreases-write_leaves : goal.decreases-write_leaves
decreases-write_leaves l = goal.size-write_leaves l

abbrev pub invariant-loop-input : goal.invariant-loop-input
invariant-loop-input l = record {
  end : l.end + length (leaves_of (drop l.input-index l.input-items)) ≡ l.at + length (leaves_of l.input-items);
  row : take l.end l.row ++ leaves_of (drop l.input-index l.input-items) ≡ take l.at l.fn.row ++ leaves_of l.input-items;
}
