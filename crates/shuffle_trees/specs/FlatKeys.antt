-- The parts of a flat key.
use Rattle.std.specs.Prelude.{ℕ, ◌+◌, List, length, take, map, slice_range}
use Rattle.shuffle_trees.specs.declared.flat_keys.FlatKey.{FlatKey}
use Rattle.shuffle_trees.specs.declared.flat_keys.FlatWord.{FlatWord}

-- the letters of a word
abbrev pub letters : FlatWord → List ℕ
letters word = take word.len word.letters

-- the words by the numbers of their leaves, from 0 on; where no leaf has a number, any word
abbrev pub words_by_number : FlatKey → List (List ℕ)
words_by_number key = map letters key.words

-- the leaf numbers from left to right
abbrev pub flat_row : FlatKey → List ℕ
flat_row key = take key.leaves key.row

-- the labels of the vertices in preorder
abbrev pub flat_labels : FlatKey → List ℕ
flat_labels key = take key.vertices key.labels

-- the words of the leaves 1, 2 and so on, as many as there are leaves
abbrev pub flat_words : FlatKey → List (List ℕ)
flat_words key = slice_range (words_by_number key) 1 (length (flat_row key) + 1)
