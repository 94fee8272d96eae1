-- The laws of the orders of the program.
use Rattle.std.specs.Prelude.{ℕ, ◌≡◌, ◌≤◌, length}
use Rattle.std.proofs.Common.{suc}
use Rattle.labelled_trees.specs.Trees.{Tree, leaves}
use Rattle.shuffle_insertions.specs.ShuffleTrees.{IsShuffle}
use Rattle.shuffle_insertions.specs.Keys.{key, words_below}
use Rattle.shuffle_insertions.specs.KeyBlocks.{AreComparableKeys}
use Rattle.shuffle_trees.specs.ValidTrees.{IsValid, IsWide}
use Rattle.shuffle_trees.specs.Walks.{words, vertex_labels}
use Rattle.shuffle_trees.specs.KeyParts.{words_in, row_in, labels_in}
use Rattle.shuffle_trees.specs.FlatKeys.{flat_words, flat_row, flat_labels}
use Rattle.shuffle_trees.specs.declared.keys.Key as program
use Rattle.shuffle_trees.specs.declared.flat_keys.FlatKey.{FlatKey}
use Rattle.path_orders.specs.SeenKeys.{flat_key_seen, key_seen}

-- A key with the words, the leaf row and the labels of a shuffle tree of the program is seen as the key of the definitions.
abbrev pub KeysAreSeen : Type 0
KeysAreSeen = (weights : ℕ → ℕ) (n : ℕ) (t : Tree ℕ) (k : program.Key) → IsValid t → IsShuffle n t
    → words_in k ≡ words t → row_in k ≡ leaves t → labels_in k ≡ vertex_labels t → key_seen weights k ≡ key weights t

-- A flat key with the words, the leaf row and the labels of a tree is seen as the key of the definitions.
abbrev pub FlatKeysAreSeen : Type 0
FlatKeysAreSeen = (weights : ℕ → ℕ) (t : Tree ℕ) (k : FlatKey)
    → flat_words k ≡ words_below (suc (length (leaves t))) t → flat_row k ≡ leaves t → flat_labels k ≡ vertex_labels t → flat_key_seen weights k ≡ key weights t

-- Trees with the leaves 1 to n, each vertex of which has two or more inputs, have alike keys.
abbrev pub KeysAreAlike : Type 0
KeysAreAlike = (weights : ℕ → ℕ) (n : ℕ) (x y : Tree ℕ) → n ≤ 65535 → IsShuffle n x → IsShuffle n y → IsWide x → IsWide y → AreComparableKeys (key weights x) (key weights y)
