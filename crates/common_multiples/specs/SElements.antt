-- S-elements of sums of ids.
use Rattle.std.specs.Prelude.{ℕ, ◌≡◌, ◌-◌, List}
use Rattle.modular_sums.specs.Sums.{Same}
use Rattle.labelled_trees.specs.Trees.{Tree}
use Rattle.labelled_trees.specs.Equality.{tree_discrete}
use Rattle.shuffle_bases.specs.Elements.{Element, terms, s_element}
use Rattle.shuffle_places.specs.Places.{IsPlace}
use Rattle.shuffle_sums.specs.Shelves.{Shelf}
use Rattle.shuffle_sums.specs.Sums.{over}
use Rattle.common_multiples.specs.declared.families.Multiple as found

-- By the shelf the sum is an element, with coefficient 1 at its leading tree, which is the divisor at the place in the tree.
pub record HasLeadAt (shelf : Shelf) (t : Tree ℕ) (place : List ℕ) (sum : List (ℕ × ℕ)) : Type 0 where
  pub element : Element
  pub terms_are : over shelf sum ≡ terms element
  pub at : IsPlace t place element.lead

-- What is made is, by the later shelf, the S-element at the multiple of the elements that the two sums are by the earlier one.
abbrev pub IsSElementOf : ℕ → found.Multiple → Shelf → List (ℕ × ℕ) → List (ℕ × ℕ) → Shelf → List (ℕ × ℕ) → Type 0
IsSElementOf p multiple old one other new made = (g h : Element) → over old one ≡ terms g → over old other ≡ terms h
    → Same tree_discrete (p - 1) (over new made) (s_element (p - 1) g h multiple.tree multiple.first multiple.second)
