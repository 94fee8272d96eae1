use Rattle.std.specs.Prelude.{slice_index}
use Rattle.labelled_trees.specs.Unions.{union_row}
use Rattle.common_multiples.proofs.Numbering.{RowLeft, shapes_from}
use Rattle.shuffle_places.specs.Overlays.{shape_row}
use Rattle.tree_divisors.proofs.LaidPatterns.{rows}
use Rattle.common_multiples.proofs.overlays.+unite.Given as goal

abbrev pub decreases-unite : goal.decreases-unite
decreases-unite l = goal.size-unite l

abbrev pub invariant-loop-at : goal.invariant-loop-at
invariant-loop-at l = RowLeft (slice_index l.numbers) l.fn.placed (union_row (shape_row (rows l.input-items)) (shape_row (rows l.parts))) l.made l.now (union_row (shapes_from l.at l.input-items) (shapes_from l.at l.parts))
