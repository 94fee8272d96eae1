use Rattle.std.proofs.Common.{drop, ◌+◌, suc}
use Rattle.labelled_trees.specs.Meaning.{tree_of}
use Rattle.labelled_trees.specs.Trees.{vertices}
use Rattle.tree_divisors.proofs.LaidPatterns.{rows}
use Rattle.common_multiples.proofs.VertexSearch.{SearchLeft}
use Rattle.common_multiples.proofs.overlays.+vertex_at.Given as goal

abbrev pub decreases-vertex_at : goal.decreases-vertex_at
decreases-vertex_at l = goal.size-vertex_at l

abbrev pub invariant-loop-input : goal.invariant-loop-input
invariant-loop-input l = SearchLeft l.at (suc l.fn.from) (rows l.input-items) l.next (rows (drop l.input-index l.input-items)) (l.fn.from + vertices (tree_of l.tree))
