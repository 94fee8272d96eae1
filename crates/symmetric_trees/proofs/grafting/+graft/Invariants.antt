use Rattle.std.proofs.Common.{◌≡◌, map, take}
use Rattle.labelled_trees.specs.Meaning.{tree_of}
use Rattle.labelled_trees.specs.Trees as math
use Rattle.labelled_trees.specs.Insertions.{item}
use Rattle.symmetric_trees.proofs.grafting.+graft.Given as goal

abbrev pub decreases-graft : goal.decreases-graft
decreases-graft l = goal.size-graft l

abbrev pub invariant-loop-branch : goal.invariant-loop-branch
invariant-loop-branch l = map tree_of l.grown ≡ map (λ t. math.graft (tree_of t) (item (map tree_of l.inputs))) (take l.branch-index l.branch-items)
