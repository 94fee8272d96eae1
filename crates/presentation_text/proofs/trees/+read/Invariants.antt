use Rattle.std.proofs.Common.{◌+◌, ◌*◌, map}
use Rattle.labelled_trees.specs.Meaning.{tree_of}
use Rattle.presentation_text.specs.TreeReadings.{tree_in}
use Rattle.presentation_text.proofs.TreeReadingsSteps.{IsReadSoFar}
use Rattle.presentation_text.proofs.trees.+read.Given as goal

abbrev pub decreases-tree_within : goal.decreases-tree_within
decreases-tree_within l = 3 * l.depth

abbrev pub decreases-input_within : goal.decreases-input_within
decreases-input_within l = 3 * l.depth + 1

abbrev pub decreases-vertex_within : goal.decreases-vertex_within
decreases-vertex_within l = 3 * l.depth + 2

abbrev pub invariant-vertex_within-loop-index : goal.invariant-vertex_within-loop-index
invariant-vertex_within-loop-index l = IsReadSoFar l.table (tree_in l.table l.depth) l.tokens l.at l.generator l.above.seen (map tree_of l.inputs.trees) l.index l.next l.inputs.seen
