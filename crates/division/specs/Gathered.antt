-- Lists of ids that steps don't leave.
use Rattle.std.specs.List.{All}
use Rattle.std.specs.Prelude.{ℕ, ◌≡◌, ◌<◌, ◌≤◌, List, [], ◌++◌, length, map, slice_get, Option, Some, None}
use Rattle.std.proofs.Common.{◌⊎◌}
use Rattle.labelled_trees.specs.Trees.{Tree}
use Rattle.shuffle_insertions.specs.ShuffleTrees.{IsShuffleTree}
use Rattle.tree_store.specs.Stores.{tree_at, IsStore}
use Rattle.division.specs.declared.reducer.Reducer.{Reducer}
use Rattle.division.specs.Dividers.{AreReducers, AreGroups, AreDividers, IsFirstDivider}
use Rattle.division.specs.KeptTails.{AreKept, IsInsertionTail}

-- each id of the list has its place there, and no other id has one; so none stands twice
pub record ArePlaces (places : List (Option ℕ)) (ids : List ℕ) : Type 0 where
  pub of : (id p : ℕ) → slice_get places id ≡ Some (Some p) → slice_get ids p ≡ Some id
  pub to : (id p : ℕ) → slice_get ids p ≡ Some id → slice_get places id ≡ Some (Some p)

-- ids were put behind others
abbrev pub Longer : List ℕ → List ℕ → Type 0
Longer old new = (added : List ℕ) × (new ≡ old ++ added)

-- each entry that is new is one of the tail
abbrev pub CameFrom : List ℕ → List ℕ → List ℕ → Type 0
CameFrom old new tail = (p x : ℕ) → slice_get new p ≡ Some x → (slice_get old p ≡ Some x) ⊎ ((k : ℕ) × (slice_get tail k ≡ Some x))

-- the trees of the elements belong to the labels
abbrev pub AreOver : (ℕ → ℕ) → List (Tree ℕ) → List Reducer → Type 0
AreOver arity trees reducers = (e : ℕ) (r : Reducer) → slice_get reducers e ≡ Some r
    → IsShuffleTree arity r.arity (tree_at trees r.lead) × ((k i : ℕ) → slice_get r.tail k ≡ Some i → IsShuffleTree arity r.arity (tree_at trees i))

-- the trees with these ids belong to the labels and have the leaves 1 to n
abbrev pub AllOver : (ℕ → ℕ) → ℕ → List (Tree ℕ) → List ℕ → Type 0
AllOver arity n trees ids = (p i : ℕ) → slice_get ids p ≡ Some i → IsShuffleTree arity n (tree_at trees i)

-- at these places of the list stand the ids of the tail, in their order
abbrev pub StandAt : List ℕ → List ℕ → List ℕ → Type 0
StandAt ids places tail = map (slice_get ids) places ≡ map Some tail

-- What is known of trees while dividers and tails are found.
pub record IsWorking (trees : List (Tree ℕ)) (reducers : List Reducer) (groups : List (List ℕ)) (found : List (Option ℕ)) (kept : List (Option (List ℕ))) : Type 0 where
  pub is_store : IsStore trees
  pub are_reducers : AreReducers trees reducers
  pub are_groups : AreGroups trees reducers groups
  pub are_dividers : AreDividers trees reducers found
  pub few : length found ≤ length trees
  pub are_kept : AreKept trees reducers found kept

-- No divider was found for the tree with this id, which has none.
pub record IsUndivided (trees : List (Tree ℕ)) (reducers : List Reducer) (found : List (Option ℕ)) (id : ℕ) : Type 0 where
  pub found_is : slice_get found id ≡ Some None
  pub none : IsFirstDivider trees reducers (tree_at trees id) None

-- The tree with this id has no divider, and the tail is empty, or the tail is one of it.
abbrev pub IsStepOf : List (Tree ℕ) → List Reducer → List (Option ℕ) → ℕ → List ℕ → Type 0
IsStepOf trees reducers found id tail = (IsUndivided trees reducers found id × (tail ≡ [])) ⊎ IsInsertionTail trees reducers found id tail

-- the same places are known
abbrev pub SamePlaces : List (Option ℕ) → List (Option ℕ) → Type 0
SamePlaces old new = (id p : ℕ) → (slice_get old id ≡ Some (Some p) → slice_get new id ≡ Some (Some p)) × (slice_get new id ≡ Some (Some p) → slice_get old id ≡ Some (Some p))

-- The tree with this id has no divider, and no places; or these are the places, in the list, of the ids of its tail.
abbrev pub IsGatheredAt : List (Tree ℕ) → List Reducer → List (Option ℕ) → List ℕ → ℕ → List ℕ → Type 0
IsGatheredAt trees reducers found ids id places = (IsUndivided trees reducers found id × (places ≡ []))
    ⊎ ((tail : List ℕ) × IsInsertionTail trees reducers found id tail × StandAt ids places tail)

-- The list was made longer until no step leaves it: for each id there are the places of its tail.
pub record AreGathered (trees : List (Tree ℕ)) (reducers : List Reducer) (found : List (Option ℕ)) (given ids : List ℕ) (tails : List (List ℕ)) : Type 0 where
  pub longer : Longer given ids
  pub held : All (λ i. i < length trees) ids
  pub over : (arity : ℕ → ℕ) (n : ℕ) → AreOver arity trees reducers → AllOver arity n trees given → AllOver arity n trees ids
  pub as_many : length tails ≡ length ids
  pub steps : (p id : ℕ) (places : List ℕ) → slice_get ids p ≡ Some id → slice_get tails p ≡ Some places → IsGatheredAt trees reducers found ids id places
