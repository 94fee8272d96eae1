use Rattle.std.proofs.Common.{◌≡◌, ◌++◌}
use Rattle.shuffle_trees.specs.Rows.{vertices_over}
use Rattle.shuffle_trees.proofs.listing.push_vertices.Given as goal

abbrev pub invariant-loop-row : goal.invariant-loop-row
invariant-loop-row l = l.made.items ≡ l.fn.made.items ++ vertices_over l.label l.yielded
