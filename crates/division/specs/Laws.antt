-- What first dividers and tails of ids say of elements.
use Rattle.std.specs.Prelude.{ℕ, ◌≡◌, List, map, slice_get, Option, Some, None}
use Rattle.modular_sums.specs.Lists.{Mem}
use Rattle.modular_sums.specs.Sums.{moved}
use Rattle.labelled_trees.specs.Trees.{Tree}
use Rattle.shuffle_insertions.specs.ShuffleTrees.{IsShuffleTree}
use Rattle.shuffle_insertions.specs.Frames.{insert}
use Rattle.shuffle_places.specs.Places.{frame_at}
use Rattle.shuffle_bases.specs.Elements.{Element, Setting, Insertion}
use Rattle.shuffle_normal_forms.specs.FreeTrees.{IsFree}
use Rattle.tree_store.specs.Stores.{tree_at}
use Rattle.division.specs.declared.reducer.Reducer.{Reducer}
use Rattle.division.specs.Dividers.{IsFirstDivider}
use Rattle.division.specs.KeptTails.{IsInsertionTail}

-- the trees of a sum, in their order
abbrev pub trees_in : List (ℕ × Tree ℕ) → List (Tree ℕ)
trees_in sum = map (λ x. x.1) sum

-- the ids are those of the element's trees
pub record IsReducerOf (trees : List (Tree ℕ)) (r : Reducer) (g : Element) : Type 0 where
  pub lead_is : g.lead ≡ tree_at trees r.lead
  pub tail_is : trees_in g.tail ≡ map (tree_at trees) r.tail

-- the elements of the setting, each as ids
pub record AreElementsOf (trees : List (Tree ℕ)) (reducers : List Reducer) (s : Setting) : Type 0 where
  pub each : (g : Element) → Mem g s.elements → (e : ℕ) × (r : Reducer) × (slice_get reducers e ≡ Some r) × IsReducerOf trees r g
  pub only : (e : ℕ) (r : Reducer) → slice_get reducers e ≡ Some r → (g : Element) × Mem g s.elements × IsReducerOf trees r g

-- A tree is free exactly where it has no first divider.
abbrev pub DividersDecideFreeness : Type 0
DividersDecideFreeness = (trees : List (Tree ℕ)) (reducers : List Reducer) (s : Setting) (t : Tree ℕ) → AreElementsOf trees reducers s
    → (IsFirstDivider trees reducers t None → IsFree s t) × ((e : ℕ) → IsFirstDivider trees reducers t (Some e) → IsFree s t → ⊥)

-- A tail has the trees of the terms of an insertion in the tree, but for the first, in their order.
abbrev pub TailsAreInsertions : Type 0
TailsAreInsertions = (trees : List (Tree ℕ)) (reducers : List Reducer) (found : List (Option ℕ)) (s : Setting) (n id : ℕ) (ids : List ℕ) → AreElementsOf trees reducers s
    → IsInsertionTail trees reducers found id ids → IsShuffleTree s.arity n (tree_at trees id)
    → (i : Insertion s n) × (i.tree ≡ tree_at trees id) × (map (tree_at trees) ids ≡ trees_in (moved (insert (frame_at i.set i.tree)) i.of.tail))
