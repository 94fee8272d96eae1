use Rattle.std.proofs.Common.{◌≡◌, ◌<◌, take, drop}
use Rattle.std.specs.List.{AllByRecursion}
use Rattle.labelled_trees.specs.Meaning.{tree_of}
use Rattle.labelled_trees.specs.Trees.{leaf, row}
use Rattle.shuffle_insertions.specs.ShuffleTrees.{least_row}
use Rattle.shuffle_trees.specs.ValidTrees.{IsWide}
use Rattle.shuffle_trees.proofs.Vertices.{with_hole, RisesFrom}
use Rattle.shuffle_trees.proofs.checks.+least_leaf.Given as goal

abbrev pub decreases-least_leaf : goal.decreases-least_leaf
decreases-least_leaf l = goal.size-least_leaf l

abbrev pub invariant-loop-at : goal.invariant-loop-at
invariant-loop-at l = record {
  wide : AllByRecursion (λ t. IsWide (tree_of t)) (take l.at l.input-items);
  rest_of : RisesFrom 0 (with_hole (leaf l.hole) l.input-items) → RisesFrom l.floor (with_hole (leaf l.hole) (drop l.at l.input-items));
  whole_of : RisesFrom l.floor (with_hole (leaf l.hole) (drop l.at l.input-items)) → RisesFrom 0 (with_hole (leaf l.hole) l.input-items);
  first : 0 < l.at → l.first ≡ least_row (row (with_hole (leaf l.hole) l.input-items));
}
