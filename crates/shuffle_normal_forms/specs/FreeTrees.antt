-- Free trees, and the list of them.
use Rattle.std.specs.Prelude.{ℕ, List, [], ◌∷◌}
use Rattle.std.proofs.Common.{Bool, true, false, cond}
use Rattle.std.specs.List.{filter}
use Rattle.modular_sums.specs.Lists.{Mem}
use Rattle.labelled_trees.specs.Trees.{Tree}
use Rattle.shuffle_insertions.specs.ShuffleTrees.{IsShuffleTree}
use Rattle.shuffle_insertions.specs.Listing.{all_trees}
use Rattle.shuffle_places.specs.Places.{IsPlace}
use Rattle.shuffle_places.specs.AllPlaces.{places}
use Rattle.shuffle_bases.specs.Elements.{Element, Setting}

-- The tree is free: no place of it has the leading tree of an element of the list as its divisor
-- (Dotsenko and Khoroshkin 2010, normal monomials; Bremner and Dotsenko 2016, normal tree monomials).
abbrev pub IsFree : Setting → Tree ℕ → Type 0
IsFree s t = (g : Element) → Mem g s.elements → (set : List ℕ) → IsPlace t set g.lead → ⊥

-- A free tree of arity n: a free shuffle tree over the labels.
pub record IsFreeTree (s : Setting) (n : ℕ) (t : Tree ℕ) : Type 0 where
  pub valid : IsShuffleTree s.arity n t
  pub free : IsFree s t

-- whether the list has nothing
abbrev pub is_empty : {X : Type 0} → List X → Bool
is_empty [] = true
is_empty (x ∷ l) = false

-- whether the tree has no place with the leading tree of one of these elements as its divisor
abbrev pub has_no_place : List Element → Tree ℕ → Bool
has_no_place [] t = true
has_no_place (g ∷ l) t = cond (is_empty (places g.lead 1 t)) (has_no_place l t) false

-- The list of the free trees of arity n over so many labels: all shuffle trees, less those in which a leading tree has a place.
abbrev pub free_trees : ℕ → Setting → ℕ → List (Tree ℕ)
free_trees labels s n = filter (has_no_place s.elements) (all_trees labels s.arity n)
