use Rattle.std.proofs.Common.{◌≡◌, map, take}
use Rattle.labelled_trees.specs.Meaning.{tree_of}
use Rattle.labelled_trees.specs.Trees.{graft}
use Rattle.labelled_trees.specs.Insertions.{item}
use Rattle.shuffle_trees.proofs.insertion.+with_inputs.Given as goal

abbrev pub decreases-with_inputs : goal.decreases-with_inputs
decreases-with_inputs l = goal.size-with_inputs l

abbrev pub invariant-loop-child : goal.invariant-loop-child
invariant-loop-child l = map tree_of l.made ≡ map (λ t. graft (tree_of t) (item l.inputs)) (take l.child-index l.child-items)
