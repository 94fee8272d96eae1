-- The order in which places and small common multiples are listed.
use Rattle.std.specs.Prelude.{ℕ, ◌≡◌, List, [], ◌∷◌}
use Rattle.std.proofs.Common.{◌⊎◌}
use Rattle.std.specs.declared.cmp.Ordering.TheVariants.{Less}
use Rattle.std.specs.Ordering.{nat_cmp}
use Rattle.std.specs.Cmp.Lexicographic.{slice_cmp}
use Rattle.modular_sums.specs.Lists.{Mem}
use Rattle.labelled_trees.specs.Trees.{Tree, IsNode}
use Rattle.shuffle_places.specs.AllPlaces.{places}
use Rattle.shuffle_places.specs.AllMultiples.{multiples}

-- R holds of each thing of the list and each later one
abbrev pub IsInOrder : {X : Type 0} → (X → X → Type 0) → List X → Type 0
IsInOrder R [] = Unit {0}
IsInOrder {X} R (x ∷ l) = ((y : X) → Mem y l → R x y) × IsInOrder R l

-- the order of places: as a list of vertex numbers the one is less than the other, by the first numbers that differ
abbrev pub Precedes : List ℕ → List ℕ → Type 0
Precedes k l = slice_cmp nat_cmp k l ≡ Less

-- each list of numbers precedes those after it, so none stands twice
abbrev pub AreRising : List (List ℕ) → Type 0
AreRising = IsInOrder Precedes

-- Of two multiples in one tree, one comes before the other: by their first places, and by the second ones where the first are one.
abbrev pub ComesFirst : Tree ℕ × List ℕ × List ℕ → Tree ℕ × List ℕ × List ℕ → Type 0
ComesFirst x y = x.0 ≡ y.0 → Precedes x.1 y.1 ⊎ ((x.1 ≡ y.1) × Precedes x.2 y.2)

-- The list of places rises: each place comes before those after it.
abbrev pub PlacesRise : Type 0
PlacesRise = (a t : Tree ℕ) → IsNode a → AreRising (places a 1 t)

-- In the list of small common multiples each comes before those after it that have the same tree.
abbrev pub MultiplesRise : Type 0
MultiplesRise = (a b : Tree ℕ) (n : ℕ) → IsNode a → IsNode b → IsInOrder ComesFirst (multiples a b n)
