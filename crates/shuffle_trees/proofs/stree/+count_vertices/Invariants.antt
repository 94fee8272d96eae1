use Rattle.std.proofs.Common.{◌≡◌, suc, take}
use Rattle.std.specs.List.{sum_by}
use Rattle.labelled_trees.specs.Trees.{vertices}
use Rattle.labelled_trees.specs.Meaning.{tree_of}
use Rattle.shuffle_trees.proofs.stree.+count_vertices.Given as goal

abbrev pub decreases-count_vertices : goal.decreases-count_vertices
decreases-count_vertices l = goal.size-count_vertices l

abbrev pub invariant-loop-input : goal.invariant-loop-input
invariant-loop-input l = l.count ≡ suc (sum_by (λ t. vertices (tree_of t)) (take l.input-index l.input-items))
