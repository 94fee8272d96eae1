-- Words of leaves, each at the number of its leaf.
use Rattle.std.specs.Prelude.{ℕ, ◌+◌, ◌<◌, ◌≤◌, List, [], ◌∷◌, ◌++◌, slice_set}
use Rattle.labelled_trees.specs.Trees.{Tree, Row, leaf, node, none, more, vertices}
use Rattle.labelled_trees.specs.Leaves.{occurs, leaf_count}
use Rattle.shuffle_trees.specs.ValidTrees.{IsWide}

-- The list with the word of each leaf at the leaf's number, behind the word of the root.
abbrev mutual
  pub spread : Tree ℕ → List ℕ → List (List ℕ) → List (List ℕ)
  spread (leaf n) w ws = slice_set ws n w
  spread (node l r) w ws = spread_row r (w ++ l ∷ []) ws

  pub spread_row : Row ℕ → List ℕ → List (List ℕ) → List (List ℕ)
  spread_row none w ws = ws
  spread_row (more t r) w ws = spread_row r w (spread t w ws)

-- Behind a word of this length, so many leaves and so many vertices, a tree with room: at most 16 leaves, whose numbers are at
-- most 16, words of at most 15 letters, and at most 15 vertices.
pub record FitsFlatKey (letters leaves_before vertices_before : ℕ) (t : Tree ℕ) : Type 0 where
  pub letters_fit : letters + leaf_count t ≤ 16
  pub leaves_fit : leaves_before + leaf_count t ≤ 16
  pub vertices_fit : IsWide t → vertices_before + vertices t ≤ 15
  pub numbers_fit : (i : ℕ) → 0 < occurs i t → i ≤ 16
