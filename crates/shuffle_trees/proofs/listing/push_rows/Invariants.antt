use Rattle.std.proofs.Common.{◌≡◌, ◌++◌, drop}
use Rattle.shuffle_trees.specs.Rows.{rows_from}
use Rattle.shuffle_trees.proofs.listing.push_rows.Given as goal

abbrev pub invariant-loop-row : goal.invariant-loop-row
invariant-loop-row l = l.made.items ++ rows_from l.first (drop l.row-index l.rows) ≡ l.fn.made.items ++ rows_from l.first l.rows
