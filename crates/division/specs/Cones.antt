-- The trees of one arity that steps can meet, sorted, with the rules of their insertions.
use Rattle.std.specs.Prelude.{ℕ, ◌≡◌, ◌≤◌, List, length, Option}
use Rattle.std.specs.declared.cmp.Ordering.{Ordering}
use Rattle.labelled_trees.specs.Trees.{Tree}
use Rattle.shuffle_insertions.specs.Orders.{IsTreeOrder}
use Rattle.shuffle_bases.specs.Elements.{Setting, Insertion}
use Rattle.division.specs.declared.reducer.Reducer.{Reducer}
use Rattle.division.specs.Gathered.{AllOver, ArePlaces, Longer}
use Rattle.shuffle_sums.specs.Sorting.{trees_at}
use Rattle.shuffle_reductions.specs.Swept.{IsTableOver}
use Rattle.division.specs.Given.{AreGiven, IsFitSetting}
use Rattle.division.specs.Ranks.{AreRanks}
use Rattle.division.specs.declared.cones.Cone.{Cone}

-- The setting has this comparison and the prime suc q, its elements are given, and the trees with these ids belong to its labels and have
-- the leaves 1 to n, at most 16.
pub record CanGather (compare : Tree ℕ → Tree ℕ → Ordering) (q : ℕ) (trees : List (Tree ℕ)) (reducers : List Reducer) (coefs : List (List ℕ)) (given : List ℕ) (s : Setting) (n : ℕ) : Type 0 where
  pub compare_is : s.compare ≡ compare
  pub prime_is : s.q ≡ q
  pub fit : IsFitSetting s
  pub are : AreGiven trees reducers coefs s
  pub over : AllOver s.arity n trees given
  pub few : n ≤ 16

-- the trees of the cone, rising by the order
abbrev pub trees_of : List (Tree ℕ) → Cone → List (Tree ℕ)
trees_of trees cone = trees_at trees cone.ids cone.order.items

-- Each given id has a place in the cone, and each place a position.
pub record IsCone (given : List ℕ) (cone : Cone) : Type 0 where
  pub longer : Longer given cone.ids
  pub places : ArePlaces cone.places cone.ids
  pub ranks : AreRanks cone.order.items cone.ranks.items (length cone.ids)
  pub sized : length cone.table.rules ≡ length cone.ids

-- The rules are a table over the trees of the cone, by insertions of the setting.
pub record IsConeOver (s : Setting) (n : ℕ) (trees : List (Tree ℕ)) (cone : Cone) : Type 0 where
  pub order : IsTreeOrder s.arity s.compare
  pub prime : cone.table.q ≡ s.q
  pub over : AllOver s.arity n trees cone.ids
  pub insertions : List (Option (Insertion s n))
  pub table : IsTableOver s n (trees_of trees cone) insertions cone.table.rules
