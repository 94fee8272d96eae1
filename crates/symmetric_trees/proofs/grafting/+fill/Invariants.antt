use Rattle.std.proofs.Common.{◌≡◌, map, take}
use Rattle.labelled_trees.specs.Meaning.{tree_of}
use Rattle.operad_ideals.specs.Ideals.{placed}
use Rattle.symmetric_trees.proofs.grafting.+fill.Given as goal

abbrev pub decreases-fill : goal.decreases-fill
decreases-fill l = goal.size-fill l

abbrev pub invariant-loop-branch : goal.invariant-loop-branch
invariant-loop-branch l = map tree_of l.filled ≡ map (λ t. placed (tree_of t) (map tree_of l.inputs) (tree_of l.tree)) (take l.branch-index l.branch-items)
