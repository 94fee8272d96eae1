use Rattle.std.proofs.Common.{◌≡◌, ◌++◌, drop}
use Rattle.shuffle_trees.specs.Rows.{each_row}
use Rattle.shuffle_trees.proofs.listing.push_each.Given as goal

abbrev pub invariant-loop-tree : goal.invariant-loop-tree
invariant-loop-tree l = l.made.items ++ each_row (drop l.tree-index l.trees) l.rows ≡ l.fn.made.items ++ each_row l.trees l.rows
