use Rattle.std.proofs.Common.{◌≡◌, map, take}
use Rattle.labelled_trees.specs.Meaning.{tree_of}
use Rattle.labelled_trees.specs.Trees.{graft}
use Rattle.labelled_trees.specs.Insertions.{put, item}
use Rattle.shuffle_trees.proofs.insertion.+filled.Given as goal

abbrev pub decreases-filled : goal.decreases-filled
decreases-filled l = goal.size-filled l

abbrev pub invariant-loop-child : goal.invariant-loop-child
invariant-loop-child l = map tree_of l.made ≡ map (λ t. put (tree_of t) (graft (tree_of l.tree) (item l.inputs))) (take l.child-index l.child-items)
