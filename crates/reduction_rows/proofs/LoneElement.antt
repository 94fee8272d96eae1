-- One element with label 0 at its root, and trees over no elements.
use Rattle.std.proofs.Common.{◌≡◌, ℕ, zero, suc, ◌<◌, ◌⊎◌, inl, inr, List, [], ◌∷◌, length, refl, sym, subst, arith, Option, Some, ◌∙◌}
use Rattle.std.specs.Prelude.{slice_get, slice_index}
use Rattle.std.specs.List.{All}
use Rattle.std.specs.declared.cmp.Ordering.{Ordering}
use Rattle.std.proofs.lemmas.List.Elements.{All-from_recursion, All-head, All-nil, All-tail}
use Rattle.std.proofs.lemmas.Option.{get_or_from_slice_get, slice_get_within}
use Rattle.modular_sums.specs.Lists.{Mem}
use Rattle.labelled_trees.specs.Trees.{Tree, Row, node, IsNode}
use Rattle.shuffle_insertions.specs.Orders.{IsTreeOrder}
use Rattle.shuffle_insertions.specs.ShuffleTrees.{IsShuffle, IsShuffleTree}
use Rattle.shuffle_bases.specs.Elements.{Setting}
use Rattle.shuffle_sums.specs.Sorting.{AreOfOneArity}
use Rattle.tree_store.specs.Stores.{tree_at, HasLabel, IsStore}
use Rattle.division.specs.declared.reducer.Reducer.{Reducer}
use Rattle.division.specs.Cones.{CanGather}
use Rattle.division.specs.Gathered.{AllOver, CameFrom, IsStepOf, IsWorking}
use Rattle.division.specs.Dividers.{HaveRoom}
use Rattle.division.specs.Insertions.{AddsInsertion, IsReducer}

no_entry : {X : Type 0} (i : ℕ) (x : X) → slice_get [] i ≡ Some x → ⊥
no_entry i x e = cc e

only_entry : {X : Type 0} (y : X) (i : ℕ) (x : X) → slice_get (y ∷ []) i ≡ Some x → (i ≡ 0) × (y ≡ x)
only_entry y zero x e = (refl, cc e)
only_entry y (suc i) x e = absurd (cc e)

same_label : (l m : ℕ) (r s : Row ℕ) → node l r ≡ node m s → l ≡ m
same_label l m r s e = cc e

module _ (trees : List (Tree ℕ)) (r : Reducer) (label : HasLabel 0 (tree_at trees r.lead)) where
  group_of : (e : ℕ) (o : Reducer) → slice_get (r ∷ []) e ≡ Some o → (l : ℕ) (s : Row ℕ) → tree_at trees o.lead ≡ node l s → (g : List ℕ) × (slice_get {X = List ℕ} ((0 ∷ []) ∷ []) l ≡ Some g) × Mem e g
  group_of e o is l s root =
      let at = only_entry r e o is in
      let here : 0 ≡ l = same_label 0 l label.0 s (sym label.1 ∙ subst (λ (x : Reducer). tree_at trees x.lead ≡ node l s) (sym at.1) root) in
      (0 ∷ [], subst (λ k. slice_get {X = List ℕ} ((0 ∷ []) ∷ []) k ≡ Some (0 ∷ [])) here refl, subst (λ k. Mem k (0 ∷ [])) (sym at.0) (inl refl))

  -- one element, whose leading tree has label 0 at its root
  pub one_working : IsStore trees → IsReducer trees r → IsWorking trees (r ∷ []) ((0 ∷ []) ∷ []) [] []
  one_working store h = record {
    is_store = store;
    are_reducers = λ e o is. subst (IsReducer trees) (only_entry r e o is).1 h;
    are_groups = record {
      within = λ l g is. subst (All (λ e. e < 1)) (only_entry (0 ∷ []) l g is).1 (All-from_recursion (λ e. e < 1) (0 ∷ []) (omega arith, tt));
      rising = λ l g is. subst (λ (k : List ℕ). (i j : ℕ) → i < j → j < length k → slice_index k i < slice_index k j) (only_entry (0 ∷ []) l g is).1 (λ i j less short. absurd (omega (arith, less, short)));
      complete = group_of;
    };
    are_dividers = λ id o is. absurd (no_entry id o is);
    few = omega arith;
    are_kept = λ id ids is. absurd (no_entry id (Some ids) is);
  }

-- Over no elements trees of one arity can be gathered.
pub nothing_given : (compare : Tree ℕ → Tree ℕ → Ordering) (q : ℕ) (trees : List (Tree ℕ)) (all given : List ℕ) → ((arity : ℕ → ℕ) → IsTreeOrder arity compare) → AreOfOneArity trees all → CameFrom [] given all
    → (s : Setting) × (n : ℕ) × CanGather compare q trees [] [] given s n
nothing_given compare q trees all given order h came = (
  record { arity = h.arity; compare = compare; elements = []; q = q },
  h.leaves,
  record {
    compare_is = refl;
    prime_is = refl;
    fit = record { order = order h.arity; monic = record { each = λ g m. absurd m; apart = λ g k m. absurd m }; falls = λ g m. absurd m };
    are = record { each = λ g m. absurd m; only = λ e r is. absurd (no_entry e r is) };
    over = over;
    few = h.few;
  },
)
  where
    go : (p i : ℕ) → (slice_get [] p ≡ Some i) ⊎ ((k : ℕ) × (slice_get all k ≡ Some i)) → IsShuffleTree h.arity h.leaves (tree_at trees i)
    go p i (inl e) = absurd (no_entry p i e)
    go p i (inr e) = subst (λ k. IsShuffleTree h.arity h.leaves (tree_at trees k)) (get_or_from_slice_get all e.0 i 0 e.1) (h.are e.0 0 (slice_get_within all e.0 i e.1))

    over : AllOver h.arity h.leaves trees given
    over p i is = go p i (came p i is)

-- over no elements nothing has to be known
pub nothing_working : (trees : List (Tree ℕ)) → IsStore trees → IsWorking trees [] [] [] []
nothing_working trees store = record {
  is_store = store;
  are_reducers = λ e r is. absurd (no_entry e r is);
  are_groups = record { within = λ l g is. absurd (no_entry l g is); rising = λ l g is. absurd (no_entry l g is); complete = λ e r is. absurd (no_entry e r is) };
  are_dividers = λ id o is. absurd (no_entry id o is);
  few = omega arith;
  are_kept = λ id ids is. absurd (no_entry id (Some ids) is);
}

-- the element of these trees, whose leading tree has a vertex
pub one_reducer : (trees : List (Tree ℕ)) (r : Reducer) (label : ℕ) → All (λ i. i < length trees) (r.lead ∷ r.tail) → All (λ i. IsShuffle r.arity (tree_at trees i)) (r.lead ∷ r.tail) → HasLabel label (tree_at trees r.lead) → IsReducer trees r
one_reducer trees r label held valid vertex = record {
  lead_low = All-head (λ i. i < length trees) r.lead r.tail held;
  lead_valid = All-head (λ i. IsShuffle r.arity (tree_at trees i)) r.lead r.tail valid;
  lead_node = subst IsNode (sym vertex.1) tt;
  tail_low = All-tail (λ i. i < length trees) r.lead r.tail held;
  tail_valid = All-tail (λ i. IsShuffle r.arity (tree_at trees i)) r.lead r.tail valid;
}

pub one_room : (r : Reducer) (n : ℕ) → r.arity < n → HaveRoom (r ∷ []) n
one_room r n less e o is = subst (λ (x : Reducer). x.arity < n) (only_entry r e o is).1 less

-- the trees of a step are held
pub held_step : (trees : List (Tree ℕ)) (reducers : List Reducer) (found : List (Option ℕ)) (id : ℕ) (tail : List ℕ) → IsStepOf trees reducers found id tail → All (λ i. i < length trees) tail
held_step trees reducers found id tail (inl h) = subst (All (λ i. i < length trees)) (sym h.1) (All-nil (λ i. i < length trees))
held_step trees reducers found id tail (inr h) = h.inserted.held

-- the trees of an insertion that was put behind nothing are held
pub held_inserted : (trees : List (Tree ℕ)) (host lead : Tree ℕ) (tail : List (Tree ℕ)) (after : List ℕ) → AddsInsertion trees host lead tail [] after → All (λ i. i < length trees) after
held_inserted trees host lead tail after h = subst (All (λ i. i < length trees)) (sym h.after_is) h.inserted.held
