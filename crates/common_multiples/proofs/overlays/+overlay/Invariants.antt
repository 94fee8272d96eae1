use Rattle.std.proofs.Common.{◌+◌, suc}
use Rattle.std.specs.Prelude.{slice_index}
use Rattle.labelled_trees.specs.Meaning.{tree_of}
use Rattle.labelled_trees.specs.Trees.{vertices}
use Rattle.shuffle_places.specs.Overlays.{shape, shape_row}
use Rattle.tree_divisors.proofs.LaidPatterns.{rows}
use Rattle.common_multiples.specs.Building.{over_at_row}
use Rattle.common_multiples.proofs.Numbering.{RowLeft, shapes_from, EndsAt}
use Rattle.common_multiples.proofs.overlays.+overlay.Given as goal

abbrev pub decreases-overlay : goal.decreases-overlay
decreases-overlay l = goal.size-overlay l

abbrev pub invariant-loop-input : goal.invariant-loop-input
invariant-loop-input l =
    RowLeft (slice_index l.numbers) l.fn.placed (over_at_row (suc l.fn.from) l.at (shape_row (rows l.input-items)) (shape (tree_of l.guest))) l.made l.now (over_at_row l.next l.at (shapes_from l.input-index l.input-items) (shape (tree_of l.guest)))
    × EndsAt (l.fn.from + vertices (tree_of l.host)) l.next l.input-index l.input-items
