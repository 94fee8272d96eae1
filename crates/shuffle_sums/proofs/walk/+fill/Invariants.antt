use Rattle.std.proofs.Common.{◌≡◌, ◌++◌, drop, map}
use Rattle.labelled_trees.specs.Trees.{row, leaves_row}
use Rattle.shuffle_trees.specs.FlatKeys.{flat_labels, flat_row, letters, words_by_number}
use Rattle.shuffle_trees.specs.Walks.{vertex_labels_row}
use Rattle.tree_store.specs.Stores.{tree_at}
use Rattle.shuffle_sums.specs.Spread.{spread_row}
use Rattle.shuffle_sums.proofs.walk.+fill.Given as goal

abbrev pub decreases-fill : goal.decreases-fill
decreases-fill l = l.id

abbrev pub invariant-loop-input : goal.invariant-loop-input
invariant-loop-input l = record {
  words : spread_row (row (map (tree_at l.store) (drop l.input-index l.inputs))) (letters l.below) (words_by_number l.key)
      ≡ spread_row (row (map (tree_at l.store) l.inputs)) (letters l.below) (words_by_number l.initial.key);
  row_is : flat_row l.key ++ leaves_row (row (map (tree_at l.store) (drop l.input-index l.inputs)))
      ≡ flat_row l.initial.key ++ leaves_row (row (map (tree_at l.store) l.inputs));
  labels : flat_labels l.key ++ vertex_labels_row (row (map (tree_at l.store) (drop l.input-index l.inputs)))
      ≡ flat_labels l.initial.key ++ vertex_labels_row (row (map (tree_at l.store) l.inputs));
}
