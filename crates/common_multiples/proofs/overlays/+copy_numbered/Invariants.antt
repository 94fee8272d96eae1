use Rattle.std.specs.Prelude.{slice_index}
use Rattle.common_multiples.proofs.Numbering.{RowLeft, shapes_from}
use Rattle.shuffle_places.specs.Overlays.{shape_row}
use Rattle.tree_divisors.proofs.LaidPatterns.{rows}
use Rattle.common_multiples.proofs.overlays.+copy_numbered.Given as goal

abbrev pub decreases-copy_numbered : goal.decreases-copy_numbered
decreases-copy_numbered l = goal.size-copy_numbered l

abbrev pub invariant-loop-input : goal.invariant-loop-input
invariant-loop-input l = RowLeft (slice_index l.numbers) l.fn.placed (shape_row (rows l.input-items)) l.made l.now (shapes_from l.input-index l.input-items)
