-- Words as text.
use Rattle.std.specs.Prelude.{ℕ, ◌+◌, ◌≡◌, List, [], ◌∷◌, ◌++◌}
use Rattle.labelled_trees.specs.Trees.{Tree}
use Rattle.labelled_trees.specs.Leaves.{AllLeaves}
use Rattle.symmetric_trees.specs.Trees.{Fits}
use Rattle.presentation_text.specs.TreeText.{tree_text}
use Rattle.symmetric_trees.specs.declared.generators.Generator.{Generator}
use Rattle.normal_listing.specs.Words.{symbols, IsLeafDigit}

-- A tree over the table whose leaves have numbers from 1 to 9.
pub record IsSpelt (generators : List Generator) (t : Tree ℕ) : Type 0 where
  pub fits : Fits generators t
  pub leaves : AllLeaves t IsLeafDigit

-- The word begins with the word of such a tree.
pub record BeginsWithTree (generators : List Generator) (word : List ℕ) : Type 0 where
  pub tree : Tree ℕ
  pub others : List ℕ
  pub spelt : IsSpelt generators tree
  pub is : word ≡ symbols tree ++ others

-- The word is that of such a tree.
pub record SpellsTree (generators : List Generator) (word : List ℕ) : Type 0 where
  pub tree : Tree ℕ
  pub spelt : IsSpelt generators tree
  pub is : word ≡ symbols tree

-- the texts of trees, each in a line
abbrev pub lines_text : List Generator → List (Tree ℕ) → List ℕ
lines_text generators [] = []
lines_text generators (t ∷ ts) = (tree_text generators t ++ 10 ∷ []) ++ lines_text generators ts
