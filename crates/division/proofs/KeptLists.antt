-- Lists that are kept by ids, and dividers that are found one after the other.
use Rattle.std.proofs.Common.{◌≡◌, ℕ, ◌+◌, ◌<◌, ◌≤◌, zero, suc, List, [], ◌∷◌, length, set, get_or, refl, sym, ap, arith, subst, Option, Some, None, slice_get, inl, inr, ◌⊎◌}
use mathlib.Core.List.{◌++◌}
use native.Mathlib.Decide.{dec_lt}
use Rattle.std.proofs.lemmas.List.{length-append}
use Rattle.labelled_trees.specs.Trees.{Tree}
use Rattle.tree_store.specs.Stores.{tree_at}
use Rattle.division.specs.declared.reducer.Reducer.{Reducer}
use Rattle.division.specs.Dividers.{IsFirstDivider, AreDividers, FoundGrows}
use Rattle.division.specs.KeptTails.{OnlyKept, OnlyPut}

-- ---- entries of longer lists

-- an entry of a list with one more
pub entry_pushed : {X : Type 0} (xs : List X) (x : X) (i : ℕ) (y : X) → slice_get (xs ++ (x ∷ [])) i ≡ Some y → (slice_get xs i ≡ Some y) ⊎ ((i ≡ length xs) × (x ≡ y))
entry_pushed [] x zero y e = inr (refl, cc e)
entry_pushed [] x (suc i) y e = absurd (cc e)
entry_pushed (z ∷ xs) x zero y e = inl e
entry_pushed (z ∷ xs) x (suc i) y e = by (entry_pushed xs x i y e)
  where
    by : (slice_get xs i ≡ Some y) ⊎ ((i ≡ length xs) × (x ≡ y)) → (slice_get xs i ≡ Some y) ⊎ ((suc i ≡ suc (length xs)) × (x ≡ y))
    by (inl h) = inl h
    by (inr h) = inr (ap suc h.0, h.1)

pub only_pushed : (old now : List (Option (List ℕ))) → OnlyKept old now → OnlyKept old (now ++ (None ∷ []))
only_pushed old now h = λ i ids e. by i ids (entry_pushed now None i (Some ids) e)
  where
    by : (i : ℕ) (ids : List ℕ) → (slice_get now i ≡ Some (Some ids)) ⊎ ((i ≡ length now) × (None ≡ Some ids)) → slice_get old i ≡ Some (Some ids)
    by i ids (inl e) = h i ids e
    by i ids (inr e) = absurd (cc e.1)

pub set_here : {X : Type 0} (xs : List X) (at : ℕ) (x : X) → at < length xs → slice_get (set xs at x) at ≡ Some x
set_here [] at x h = absurd (omega arith)
set_here (y ∷ xs) zero x h = refl
set_here (y ∷ xs) (suc at) x h = set_here xs at x (omega arith)

pub entry_set : {X : Type 0} (xs : List X) (at : ℕ) (x : X) (i : ℕ) (y : X) → slice_get (set xs at x) i ≡ Some y → (slice_get xs i ≡ Some y) ⊎ ((i ≡ at) × (x ≡ y))
entry_set [] at x i y e = inl e
entry_set (z ∷ xs) zero x zero y e = inr (refl, cc e)
entry_set (z ∷ xs) zero x (suc i) y e = inl e
entry_set (z ∷ xs) (suc at) x zero y e = inl e
entry_set (z ∷ xs) (suc at) x (suc i) y e = by (entry_set xs at x i y e)
  where
    by : (slice_get xs i ≡ Some y) ⊎ ((i ≡ at) × (x ≡ y)) → (slice_get xs i ≡ Some y) ⊎ ((suc i ≡ suc at) × (x ≡ y))
    by (inl h) = inl h
    by (inr h) = inr (ap suc h.0, h.1)

pub only_put : (old now : List (Option (List ℕ))) (at : ℕ) (list : List ℕ) → OnlyKept old now → OnlyPut old (set now at (Some list)) at list
only_put old now at list h = λ i ids e. by i ids (entry_set now at (Some list) i (Some ids) e)
  where
    by : (i : ℕ) (ids : List ℕ) → (slice_get now i ≡ Some (Some ids)) ⊎ ((i ≡ at) × (Some list ≡ Some ids)) → (slice_get old i ≡ Some (Some ids)) ⊎ ((i ≡ at) × (ids ≡ list))
    by i ids (inl e) = inl (h i ids e)
    by i ids (inr e) = inr (e.0, cc e.1)

pub only_none : (old now : List (Option (List ℕ))) (at : ℕ) (list : List ℕ) → OnlyKept old now → OnlyPut old now at list
only_none old now at list h = λ i ids e. inl (h i ids e)

-- ---- dividers one after the other

-- What holds on the way: what was found is right, and not more than there are trees, and the entries stay.
pub record IsExtending (trees : List (Tree ℕ)) (reducers : List Reducer) (old found : List (Option ℕ)) : Type 0 where
  pub are : AreDividers trees reducers found
  pub few : length found ≤ length trees
  pub grows : FoundGrows old found

-- an entry stays where one more comes
pub entry_stays : {X : Type 0} (xs : List X) (x : X) (i : ℕ) (y : X) → slice_get xs i ≡ Some y → slice_get (xs ++ (x ∷ [])) i ≡ Some y
entry_stays [] x i y e = absurd (cc e)
entry_stays (z ∷ xs) x zero y e = e
entry_stays (z ∷ xs) x (suc i) y e = entry_stays xs x i y e

pub extend_more : (trees : List (Tree ℕ)) (reducers : List Reducer) (old found later : List (Option ℕ)) (o : Option ℕ) → IsExtending trees reducers old found → IsFirstDivider trees reducers (tree_at trees (length found)) o
    → length found < length trees → later ≡ found ++ (o ∷ []) → IsExtending trees reducers old later
extend_more trees reducers old found later o h f lt e = subst (IsExtending trees reducers old) (sym e) record {
  are = λ i p s. by i p (entry_pushed found o i p s);
  few = let l = length-append found (o ∷ []) in omega (arith, l, lt);
  grows = λ i p s. entry_stays found o i p (h.grows i p s);
}
  where
    by : (i : ℕ) (p : Option ℕ) → (slice_get found i ≡ Some p) ⊎ ((i ≡ length found) × (o ≡ p)) → IsFirstDivider trees reducers (tree_at trees i) p
    by i p (inl s) = h.are i p s
    by i p (inr s) = subst (IsFirstDivider trees reducers (tree_at trees i)) s.1 (subst (λ j. IsFirstDivider trees reducers (tree_at trees j) o) (sym s.0) f)

-- ---- inputs

-- the inputs before this number don't have it, nor has this one
pub none_more : (found : List (Option ℕ)) (ids : List ℕ) (at : ℕ) (element : ℕ) → ((j : ℕ) → j < at → slice_get found (get_or ids j 0) ≡ Some (Some element) → ⊥) → (slice_get found (get_or ids at 0) ≡ Some (Some element) → ⊥)
    → (j : ℕ) → j < at + 1 → slice_get found (get_or ids j 0) ≡ Some (Some element) → ⊥
none_more found ids at element h n j lt s = by (dec_lt j at)
  where
    by : Dec (j < at) → ⊥
    by (yes l) = h j l s
    by (no f) = let same : j ≡ at = omega (arith, lt, f) in n (subst (λ k. slice_get found (get_or ids k 0) ≡ Some (Some element)) same s)
