-- Tails of trees: what stands for them after one step.
use Rattle.std.specs.Prelude.{ℕ, ◌≡◌, ◌<◌, List, ◌++◌, length, map, slice_get, Option, Some}
use Rattle.std.proofs.Common.{◌⊎◌}
use Rattle.std.specs.List.{All}
use Rattle.modular_sums.specs.Lists.{Mem}
use Rattle.labelled_trees.specs.Trees.{Tree, leaf, node, row}
use Rattle.tree_store.specs.Stores.{tree_at}
use Rattle.division.specs.declared.reducer.Reducer.{Reducer}
use Rattle.division.specs.Insertions.{AreInserted}

-- These are the ids of an insertion in the tree with this id, but for its first tree: an insertion of its first divider.
pub record IsInsertionTail (trees : List (Tree ℕ)) (reducers : List Reducer) (found : List (Option ℕ)) (id : ℕ) (ids : List ℕ) : Type 0 where
  pub element : ℕ
  pub reducer : Reducer
  pub found_is : slice_get found id ≡ Some (Some element)
  pub reducer_is : slice_get reducers element ≡ Some reducer
  pub inserted : AreInserted trees (tree_at trees id) (tree_at trees reducer.lead) (map (tree_at trees) reducer.tail) ids

-- ids of a tail were put behind others
abbrev pub AddsTail : List (Tree ℕ) → List Reducer → List (Option ℕ) → ℕ → List ℕ → List ℕ → Type 0
AddsTail trees reducers found id before after = (made : List ℕ) × (after ≡ before ++ made) × IsInsertionTail trees reducers found id made

-- each list that is kept for an id is a tail of its tree
abbrev pub AreKept : List (Tree ℕ) → List Reducer → List (Option ℕ) → List (Option (List ℕ)) → Type 0
AreKept trees reducers found kept = (id : ℕ) (ids : List ℕ) → slice_get kept id ≡ Some (Some ids) → IsInsertionTail trees reducers found id ids

-- nothing is kept that wasn't
abbrev pub OnlyKept : List (Option (List ℕ)) → List (Option (List ℕ)) → Type 0
OnlyKept old new = (id : ℕ) (ids : List ℕ) → slice_get new id ≡ Some (Some ids) → slice_get old id ≡ Some (Some ids)

-- nothing is kept that wasn't, but this at this place
abbrev pub OnlyPut : List (Option (List ℕ)) → List (Option (List ℕ)) → ℕ → List ℕ → Type 0
OnlyPut old new at list = (id : ℕ) (ids : List ℕ) → slice_get new id ≡ Some (Some ids) → (slice_get old id ≡ Some (Some ids)) ⊎ ((id ≡ at) × (ids ≡ list))

-- input `at` of the tree's root has this id, which is less than that of the tree, and the divider with this number
pub record IsDividedInput (trees : List (Tree ℕ)) (found : List (Option ℕ)) (host element at child : ℕ) : Type 0 where
  pub label : ℕ
  pub ids : List ℕ
  pub is : tree_at trees host ≡ node label (row (map (tree_at trees) ids))
  pub lower : All (λ i. i < host) ids
  pub within : at < length ids
  pub child_is : slice_get ids at ≡ Some child
  pub less : child < host
  pub found_is : slice_get found child ≡ Some (Some element)

-- The tree is a leaf, or no input of its root has the divider with this number.
abbrev pub NoDividedInput : List (Tree ℕ) → List (Option ℕ) → ℕ → ℕ → Type 0
NoDividedInput trees found host element = ((i : ℕ) × (tree_at trees host ≡ leaf i))
    ⊎ ((l : ℕ) × (ids : List ℕ) × (tree_at trees host ≡ node l (row (map (tree_at trees) ids))) × All (λ i. i < host) ids
    × ((i : ℕ) → Mem i ids → slice_get found i ≡ Some (Some element) → ⊥))
