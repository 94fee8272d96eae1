-- What is given to reduce by: the elements of a setting, as ids of a store and coefficients.
use Rattle.std.specs.Prelude.{ℕ, ◌≡◌, List, [], ◌∷◌, map, slice_get, Some}
use Rattle.std.proofs.Common.{suc}
use Rattle.modular_sums.specs.Lists.{Mem}
use Rattle.labelled_trees.specs.Trees.{Tree}
use Rattle.labelled_trees.specs.Leaves.{leaf_count}
use Rattle.tree_store.specs.Stores.{tree_at}
use Rattle.shuffle_insertions.specs.Orders.{IsTreeOrder}
use Rattle.shuffle_bases.specs.Elements.{Element, Setting, AreMonic}
use Rattle.modular_sums.specs.Falling.{IsFalling}
use Rattle.division.specs.declared.reducer.Reducer.{Reducer}
use Rattle.division.specs.Bases.{first_id}
use Rattle.division.specs.Laws.{IsReducerOf}

-- the numbers of a sum, in its order
abbrev pub numbers_in : List (ℕ × Tree ℕ) → List ℕ
numbers_in sum = map (λ x. x.0) sum

-- the terms of a sum but the first
abbrev pub behind : List (ℕ × ℕ) → List (ℕ × ℕ)
behind [] = []
behind (x ∷ sum) = sum

-- a monic sum as an element over ids
abbrev pub reducer_of : List (Tree ℕ) → List (ℕ × ℕ) → Reducer
reducer_of trees sum = record { arity = leaf_count (tree_at trees (first_id sum)); lead = first_id sum; tail = map (λ x. x.1) (behind sum) }

-- the coefficients of its tail
abbrev pub coefs_of : List (ℕ × ℕ) → List ℕ
coefs_of sum = map (λ x. x.0) (behind sum)

-- The elements of the setting, each as ids and the coefficients of its tail.
pub record AreGiven (trees : List (Tree ℕ)) (reducers : List Reducer) (coefs : List (List ℕ)) (s : Setting) : Type 0 where
  pub each : (g : Element) → Mem g s.elements → (e : ℕ) × (r : Reducer) × (slice_get reducers e ≡ Some r) × IsReducerOf trees r g
  pub only : (e : ℕ) (r : Reducer) → slice_get reducers e ≡ Some r
      → (g : Element) × Mem g s.elements × IsReducerOf trees r g × (g.arity ≡ r.arity) × (slice_get coefs e ≡ Some (numbers_in g.tail))

-- The setting compares by an order, and its elements are monic, with tails that fall and residues other than 0.
pub record IsFitSetting (s : Setting) : Type 0 where
  pub order : IsTreeOrder s.arity s.compare
  pub monic : AreMonic s
  pub falls : (g : Element) → Mem g s.elements → IsFalling s.compare (suc s.q) g.tail
