-- Elements grouped by the labels of the roots of their leading trees.
use Rattle.std.specs.Prelude.{slice_index}
use Rattle.std.proofs.Common.{◌≡◌, ℕ, zero, suc, ◌+◌, ◌<◌, List, [], ◌∷◌, length, refl, sym, ◌∙◌, ap, arith, subst, Some, slice_get, inl, inr, ◌⊎◌}
use mathlib.Core.List.{◌++◌}
use native.Mathlib.Decide.{ℕ_discrete, dec_lt}
use Rattle.std.specs.List.{All}
use Rattle.std.proofs.lemmas.List.{length-append, get_or_append_left}
use Rattle.std.proofs.lemmas.Option.{slice_get_within, get_or_from_slice_get}
use Rattle.std.proofs.Math.Seq.{get_or-append_seam}
use Rattle.modular_sums.specs.Lists.{Mem}
use Rattle.modular_sums.proofs.Lists.{mem_left, mem_right, mem_either}
use Rattle.labelled_trees.specs.Trees.{Tree, node}
use Rattle.tree_store.specs.Stores.{tree_at, HasLabel}
use Rattle.tree_store.proofs.Trees.{mem_at}
use Rattle.division.specs.declared.reducer.Reducer.{Reducer}
use Rattle.division.specs.Dividers.{AreGroups}
use Rattle.division.specs.Roots.{EntersAt, group_at}
use Rattle.division.proofs.Agreeing.{all_cons}

-- the numbers below n of elements, in the groups of their labels
pub record AreGroupsBelow (trees : List (Tree ℕ)) (reducers : List Reducer) (groups : List (List ℕ)) (n : ℕ) : Type 0 where
  pub within : (l e : ℕ) → Mem e (group_at groups l) → e < n
  pub rising : (l j k : ℕ) → j < k → k < length (group_at groups l) → slice_index (group_at groups l) j < slice_index (group_at groups l) k
  pub complete : (e l : ℕ) (r : Reducer) → e < n → slice_get reducers e ≡ Some r → HasLabel l (tree_at trees r.lead) → Mem e (group_at groups l)

pub groups_none : (trees : List (Tree ℕ)) (reducers : List Reducer) → AreGroupsBelow trees reducers [] 0
groups_none trees reducers = record {
  within = λ l e m. absurd m;
  rising = λ l j k lt low. absurd (omega (arith, low));
  complete = λ e l r low h k. absurd (omega (arith, low));
}

one_label : (t : Tree ℕ) (l m : ℕ) → HasLabel l t → HasLabel m t → l ≡ m
one_label t l m h k = let e : node l h.0 ≡ node m k.0 = sym h.1 ∙ k.1 in cc e

module _ (trees : List (Tree ℕ)) (reducers : List Reducer) (old new : List (List ℕ)) (n label : ℕ) (r : Reducer) (h : AreGroupsBelow trees reducers old n) (enters : EntersAt old new label n)
    (is : slice_get reducers n ≡ Some r) (labelled : HasLabel label (tree_at trees r.lead)) where
  abbrev group : ℕ → List ℕ
  group l = group_at old l

  within_more : (l e : ℕ) → Dec (l ≡ label) → Mem e (group_at new l) → e < n + 1
  within_more l e (yes q) m = by (mem_either e (group label) (n ∷ []) (subst (Mem e) (ap (group_at new) q ∙ enters.there) m))
    where
      by : Mem e (group label) ⊎ Mem e (n ∷ []) → e < n + 1
      by (inl k) = let lt = h.within label e k in omega (arith, lt)
      by (inr (inl k)) = omega (arith, k)
      by (inr (inr k)) = absurd k
  within_more l e (no q) m = let lt = h.within l e (subst (Mem e) (enters.others l q) m) in omega (arith, lt)

  rises : (j k : ℕ) → j < k → k < length (group label ++ (n ∷ [])) → Dec (k < length (group label)) → slice_index (group label ++ (n ∷ [])) j < slice_index (group label ++ (n ∷ [])) k
  rises j k less low (yes front) =
      let a : slice_index (group label ++ (n ∷ [])) j ≡ slice_index (group label) j = get_or_append_left (group label) (n ∷ []) 0 j (omega (arith, less, front)) in
      let b : slice_index (group label ++ (n ∷ [])) k ≡ slice_index (group label) k = get_or_append_left (group label) (n ∷ []) 0 k front in
      let c = h.rising label j k less front in omega (arith, a, b, c)
  rises j k less low (no back) =
      let last : k ≡ length (group label) = omega (arith, low, back, length-append (group label) (n ∷ [])) in
      let front : j < length (group label) = omega (arith, less, last) in
      let a : slice_index (group label ++ (n ∷ [])) j ≡ slice_index (group label) j = get_or_append_left (group label) (n ∷ []) 0 j front in
      let b : slice_index (group label ++ (n ∷ [])) k ≡ n = ap (slice_index (group label ++ (n ∷ []))) last ∙ get_or-append_seam (group label) n [] 0 in
      let c = h.within label (slice_index (group label) j) (mem_at (group label) j 0 front) in omega (arith, a, b, c)

  rising_more : (l j k : ℕ) → Dec (l ≡ label) → j < k → k < length (group_at new l) → slice_index (group_at new l) j < slice_index (group_at new l) k
  rising_more l j k (yes q) less low =
      let e : group_at new l ≡ group label ++ (n ∷ []) = ap (group_at new) q ∙ enters.there in
      subst (λ g. slice_index g j < slice_index g k) (sym e) (rises j k less (subst (λ g. k < length g) e low) (dec_lt k (length (group label))))
  rising_more l j k (no q) less low =
      let e = enters.others l q in
      subst (λ g. slice_index g j < slice_index g k) (sym e) (h.rising l j k less (subst (λ g. k < length g) e low))

  complete_more : (e l : ℕ) (d : Reducer) → Dec (e ≡ n) → Dec (l ≡ label) → e < n + 1 → slice_get reducers e ≡ Some d → HasLabel l (tree_at trees d.lead) → Mem e (group_at new l)
  complete_more e l d (yes a) (yes q) low s k = subst (Mem e) (sym (ap (group_at new) q ∙ enters.there)) (mem_right e (group label) (n ∷ []) (inl a))
  complete_more e l d (yes a) (no q) low s k =
      let same : Some d ≡ Some r = sym s ∙ ap (slice_get reducers) a ∙ is in
      let one : d ≡ r = cc same in
      absurd (q (one_label (tree_at trees r.lead) l label (subst (λ (x : Reducer). HasLabel l (tree_at trees x.lead)) one k) labelled))
  complete_more e l d (no a) (yes q) low s k = subst (Mem e) (sym (ap (group_at new) q ∙ enters.there)) (mem_left e (group label) (n ∷ []) (h.complete e label d (omega (arith, a, low)) s (subst (λ m. HasLabel m (tree_at trees d.lead)) q k)))
  complete_more e l d (no a) (no q) low s k = subst (Mem e) (sym (enters.others l q)) (h.complete e l d (omega (arith, a, low)) s k)

  -- a number more, in the group of its label
  pub groups_more : AreGroupsBelow trees reducers new (n + 1)
  groups_more = record {
    within = λ l e m. within_more l e (ℕ_discrete l label) m;
    rising = λ l j k less low. rising_more l j k (ℕ_discrete l label) less low;
    complete = λ e l d low s k. complete_more e l d (ℕ_discrete e n) (ℕ_discrete l label) low s k;
  }

group_there : (groups : List (List ℕ)) (l e : ℕ) → Mem e (group_at groups l) → slice_get groups l ≡ Some (group_at groups l)
group_there [] l e m = absurd m
group_there (g ∷ groups) zero e m = refl
group_there (g ∷ groups) (suc l) e m = group_there groups l e m

all_low : (n : ℕ) (g : List ℕ) → ((e : ℕ) → Mem e g → e < n) → All (λ e. e < n) g
all_low n [] h = λ k d lt. absurd (omega (arith, lt))
all_low n (x ∷ g) h = all_cons n x g (h x (inl refl)) (all_low n g (λ e m. h e (inr m)))

pub groups_all : (trees : List (Tree ℕ)) (reducers : List Reducer) (groups : List (List ℕ)) (n : ℕ) → n ≡ length reducers → AreGroupsBelow trees reducers groups n → AreGroups trees reducers groups
groups_all trees reducers groups n all h = record {
  within = λ l g s. all_low (length reducers) g (λ e m. subst (λ k. e < k) all (h.within l e (subst (Mem e) (sym (is l g s)) m)));
  rising = λ l g s j k less low. subst (λ x. slice_index x j < slice_index x k) (is l g s) (h.rising l j k less (subst (λ x. k < length x) (sym (is l g s)) low));
  complete = λ e r s l row k.
      let low = slice_get_within reducers e r s in
      let m = h.complete e l r (omega (arith, low, all)) s (row, k) in
      (group_at groups l, group_there groups l e m, m);
}
  where
    is : (l : ℕ) (g : List ℕ) → slice_get groups l ≡ Some g → group_at groups l ≡ g
    is l g s = get_or_from_slice_get groups l g [] s
