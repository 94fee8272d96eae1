-- The parts of the program's keys.
use Rattle.std.specs.Prelude.{ℕ, List}
use Rattle.shuffle_trees.specs.declared.keys.Key as program

-- the words of the leaves, in ascending order of leaf numbers
abbrev pub words_in : program.Key → List (List ℕ)
words_in key = key.words

-- the leaf numbers from left to right
abbrev pub row_in : program.Key → List ℕ
row_in key = key.row

-- the labels of the vertices in preorder
abbrev pub labels_in : program.Key → List ℕ
labels_in key = key.vertices
