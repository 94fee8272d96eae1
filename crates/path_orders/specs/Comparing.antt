-- Comparisons of words, longer or shorter ones being greater.
use Rattle.std.specs.Prelude.{ℕ, Bool, true, false, List, length}
use Rattle.std.proofs.Common.{suc}
use Rattle.std.specs.declared.cmp.Ordering.{Ordering}
use Rattle.shuffle_insertions.specs.ShuffleTrees.{IsShuffle}
use Rattle.shuffle_insertions.specs.Keys.{word_cmp, short_cmp, words_below}
use Rattle.labelled_trees.specs.Trees.{Tree, leaves}

-- by length, a shorter word being greater where that is asked, then letter by letter
abbrev pub words_by : Bool → List ℕ → List ℕ → Ordering
words_by true = short_cmp
words_by false = word_cmp

-- both trees have the leaves 1 to n for one n
abbrev pub AreComparable : Tree ℕ → Tree ℕ → Type 0
AreComparable a b = (n : ℕ) × IsShuffle n a × IsShuffle n b

-- the words of the leaves of a tree whose leaves are numbered from 1 to their number
abbrev pub key_words : Tree ℕ → List (List ℕ)
key_words t = words_below (suc (length (leaves t))) t
