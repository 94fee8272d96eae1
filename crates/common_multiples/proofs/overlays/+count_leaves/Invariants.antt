use Rattle.labelled_trees.specs.Leaves.{leaf_count}
use Rattle.labelled_trees.specs.Meaning.{tree_of}
use Rattle.common_multiples.proofs.LeafCounts.{CountsTo}
use Rattle.common_multiples.proofs.overlays.+count_leaves.Given as goal

abbrev pub decreases-count_leaves : goal.decreases-count_leaves
decreases-count_leaves l = goal.size-count_leaves l

abbrev pub invariant-loop-input : goal.invariant-loop-input
invariant-loop-input l = CountsTo (leaf_count (tree_of l.tree)) l.count l.input-index l.input-items
