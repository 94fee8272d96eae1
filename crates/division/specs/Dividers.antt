-- The first element of a list that divides a tree.
use Rattle.std.specs.Prelude.{ℕ, ◌≡◌, ◌<◌, ◌≤◌, List, length, slice_get, slice_index, Option, Some, None}
use Rattle.std.specs.List.{All}
use Rattle.std.proofs.Common.{◌⊎◌}
use Rattle.modular_sums.specs.Lists.{Mem}
use Rattle.labelled_trees.specs.Trees.{Tree, Row, node}
use Rattle.shuffle_places.specs.Places.{IsPlace}
use Rattle.tree_store.specs.Stores.{tree_at}
use Rattle.shuffle_places.specs.RootPlaces.{DividesRoot}
use Rattle.division.specs.declared.reducer.Reducer.{Reducer}
use Rattle.division.specs.Insertions.{IsReducer}

-- the leading tree of the element with this number is the divisor at some place of the tree
abbrev pub Divides : List (Tree ℕ) → List Reducer → Tree ℕ → ℕ → Type 0
Divides trees reducers t e = (r : Reducer) × (slice_get reducers e ≡ Some r) × ((set : List ℕ) × IsPlace t set (tree_at trees r.lead))

-- it divides the tree at its root
abbrev pub DividesAtRoot : List (Tree ℕ) → List Reducer → Tree ℕ → ℕ → Type 0
DividesAtRoot trees reducers t e = (r : Reducer) × (slice_get reducers e ≡ Some r) × ((s : ℕ → Tree ℕ) × DividesRoot r.arity (tree_at trees r.lead) t s)

-- it is the number of the first element whose leading tree divides the tree; there is none where no leading tree does
abbrev pub IsFirstDivider : List (Tree ℕ) → List Reducer → Tree ℕ → Option ℕ → Type 0
IsFirstDivider trees reducers t None = (e : ℕ) → Divides trees reducers t e → ⊥
IsFirstDivider trees reducers t (Some e) = Divides trees reducers t e × ((i : ℕ) → i < e → Divides trees reducers t i → ⊥)

-- the same of the elements with a lower number than this, and the root
abbrev pub IsFirstAtRoot : List (Tree ℕ) → List Reducer → Tree ℕ → ℕ → Option ℕ → Type 0
IsFirstAtRoot trees reducers t bound None = (e : ℕ) → e < bound → DividesAtRoot trees reducers t e → ⊥
IsFirstAtRoot trees reducers t bound (Some e) = (e < bound) × DividesAtRoot trees reducers t e × ((i : ℕ) → i < e → DividesAtRoot trees reducers t i → ⊥)

-- each element is one over the store's ids
abbrev pub AreReducers : List (Tree ℕ) → List Reducer → Type 0
AreReducers trees reducers = (e : ℕ) (r : Reducer) → slice_get reducers e ≡ Some r → IsReducer trees r

-- the arity of each element is less than the number of entries
abbrev pub HaveRoom : List Reducer → ℕ → Type 0
HaveRoom reducers n = (e : ℕ) (r : Reducer) → slice_get reducers e ≡ Some r → r.arity < n

-- entry i has the first divider of the tree with id i
abbrev pub AreDividers : List (Tree ℕ) → List Reducer → List (Option ℕ) → Type 0
AreDividers trees reducers found = (id : ℕ) (o : Option ℕ) → slice_get found id ≡ Some o → IsFirstDivider trees reducers (tree_at trees id) o

-- numbers of elements in ascending order, among them each that divides the tree at its root
pub record AreCandidates (trees : List (Tree ℕ)) (reducers : List Reducer) (t : Tree ℕ) (candidates : List ℕ) : Type 0 where
  pub within : All (λ e. e < length reducers) candidates
  pub rising : (j k : ℕ) → j < k → k < length candidates → slice_index candidates j < slice_index candidates k
  pub complete : (e : ℕ) → DividesAtRoot trees reducers t e → Mem e candidates

-- the least element number that entries of these ids have; none where they have none
abbrev pub IsLeastOf : List (Option ℕ) → List ℕ → Option ℕ → Type 0
IsLeastOf found ids None = (id : ℕ) → Mem id ids → slice_get found id ≡ Some None
IsLeastOf found ids (Some e) = ((id : ℕ) × Mem id ids × (slice_get found id ≡ Some (Some e)))
    × ((id : ℕ) (o : Option ℕ) → Mem id ids → slice_get found id ≡ Some o → (i : ℕ) → o ≡ Some i → e ≤ i)
    × ((id : ℕ) → Mem id ids → (o : Option ℕ) × (slice_get found id ≡ Some o))

-- the lesser of two numbers, as far as they are there
abbrev pub IsLesser : Option ℕ → Option ℕ → Option ℕ → Type 0
IsLesser None other o = o ≡ other
IsLesser (Some a) None o = o ≡ Some a
IsLesser (Some a) (Some b) o = (e : ℕ) × (o ≡ Some e) × (e ≤ a) × (e ≤ b) × ((e ≡ a) ⊎ (e ≡ b))

-- Elements grouped by the labels of the roots of their leading trees: group l has their numbers in ascending order.
pub record AreGroups (trees : List (Tree ℕ)) (reducers : List Reducer) (groups : List (List ℕ)) : Type 0 where
  pub within : (l : ℕ) (g : List ℕ) → slice_get groups l ≡ Some g → All (λ e. e < length reducers) g
  pub rising : (l : ℕ) (g : List ℕ) → slice_get groups l ≡ Some g → (j k : ℕ) → j < k → k < length g → slice_index g j < slice_index g k
  pub complete : (e : ℕ) (r : Reducer) → slice_get reducers e ≡ Some r → (l : ℕ) (s : Row ℕ) → tree_at trees r.lead ≡ node l s → (g : List ℕ) × (slice_get groups l ≡ Some g) × Mem e g

-- the entries stay
abbrev pub FoundGrows : List (Option ℕ) → List (Option ℕ) → Type 0
FoundGrows old new = (id : ℕ) (o : Option ℕ) → slice_get old id ≡ Some o → slice_get new id ≡ Some o
