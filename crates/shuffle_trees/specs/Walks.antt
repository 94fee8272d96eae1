-- Walks through a tree.
use Rattle.std.specs.Prelude.{ℕ, ◌≡◌, Bool, true, false, List, [], ◌∷◌, ◌++◌}
use Rattle.labelled_trees.specs.Trees.{Tree, Row, leaf, node, none, more}
use Rattle.shuffle_insertions.specs.Keys.{words_below}

-- the labels of the vertices in preorder
abbrev mutual
  pub vertex_labels : Tree ℕ → List ℕ
  vertex_labels (leaf n) = []
  vertex_labels (node l r) = l ∷ vertex_labels_row r

  pub vertex_labels_row : Row ℕ → List ℕ
  vertex_labels_row none = []
  vertex_labels_row (more t r) = vertex_labels t ++ vertex_labels_row r

-- where a walk finds a leaf, the first of these words was put behind what was there before; where it finds none there are no words
abbrev pub IsWalked : Bool → List ℕ → List ℕ → List (List ℕ) → Type 0
IsWalked true before after words = (word : List ℕ) × (others : List (List ℕ)) × (words ≡ word ∷ others) × (after ≡ before ++ word)
IsWalked false before after words = (words ≡ []) × (after ≡ before)

-- the words of the leaves, in ascending order of their numbers, which are below 256
unfoldable pub words : Tree ℕ → List (List ℕ)
words t = words_below 256 t
