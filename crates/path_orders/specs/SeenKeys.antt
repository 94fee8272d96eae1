-- Keys of the program, as the orders see them.
use Rattle.std.specs.Prelude.{ℕ, List, slice_index}
use Rattle.std.specs.List.{sum_by}
use Rattle.shuffle_insertions.specs.Keys.{Key}
use Rattle.shuffle_trees.specs.declared.keys.Key as program
use Rattle.shuffle_trees.specs.KeyParts.{words_in, row_in, labels_in}
use Rattle.shuffle_trees.specs.declared.flat_keys.FlatKey.{FlatKey}
use Rattle.shuffle_trees.specs.FlatKeys.{flat_words, flat_row, flat_labels}
use Rattle.path_orders.specs.declared.orders.WeightPath.{WeightPath}

-- the key with the weight of its labels
abbrev pub key_seen : (ℕ → ℕ) → program.Key → Key
key_seen weights key = record { words = words_in key; row = row_in key; weight = sum_by weights (labels_in key) }

-- the flat key with the weight of its labels
abbrev pub flat_key_seen : (ℕ → ℕ) → FlatKey → Key
flat_key_seen weights key = record { words = flat_words key; row = flat_row key; weight = sum_by weights (flat_labels key) }

-- each label weighs nothing
abbrev pub weightless : ℕ → ℕ
weightless label = 0

-- the weight of a label in a list; 0 where the list has none
abbrev pub weight_in : List ℕ → ℕ → ℕ
weight_in weights label = slice_index weights label

-- the weights that an order by weight was given, from label 0 on
abbrev pub weights_of : WeightPath → List ℕ
weights_of order = order.weights
