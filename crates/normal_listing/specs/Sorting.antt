-- Sorted words.
use Rattle.std.specs.Prelude.{ℕ, ◌≡◌, List, map}
use Rattle.std.specs.List.Sorted.{IsPermutation, IsSorted}
use Rattle.labelled_trees.specs.Trees.{Tree}
use Rattle.operad_ideals.specs.SpellingOrder.{order}
use Rattle.normal_listing.specs.Words.{symbols}

-- The words are those of these trees in spelling order.
pub record SortsTrees (ts : List (Tree ℕ)) (words : List (List ℕ)) : Type 0 where
  pub trees : List (Tree ℕ)
  pub permutation : IsPermutation ts trees
  pub are : words ≡ map symbols trees
  pub sorted : IsSorted order trees
