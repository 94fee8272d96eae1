-- The first divider of a tree from those of its inputs.
use Rattle.std.proofs.Common.{◌≡◌, ℕ, ◌+◌, ◌<◌, ◌≤◌, List, [], ◌∷◌, length, map, get_or, refl, sym, ◌∙◌, ap, arith, subst, Option, Some, None, slice_get, MatchOption, inl, inr, ◌⊎◌}
use mathlib.Core.List.{◌++◌}
use native.Mathlib.Decide.{dec_lt}
use Rattle.std.specs.List.{All}
use Rattle.std.proofs.lemmas.Option.{slice_get-get_or, slice_get_within}
use Rattle.modular_sums.specs.Lists.{Mem}
use Rattle.modular_sums.proofs.Lists.{mem_either, mem_left, mem_right, mem_of_map, mem_map}
use Rattle.labelled_trees.specs.Trees.{Tree, Row, leaf, node, row, inputs, graft, graft_row, IsNode}
use Rattle.labelled_trees.proofs.Contexts.{node-eq}
use Rattle.labelled_trees.proofs.Rows.{inputs-row}
use Rattle.shuffle_places.specs.Cuts.{numbers}
use Rattle.shuffle_places.specs.Places.{IsPlace}
use Rattle.tree_store.specs.Stores.{tree_at, IsStore}
use Rattle.tree_store.proofs.Counts.{held_valid}
use Rattle.tree_store.proofs.Trees.{place_of}
use Rattle.shuffle_places.specs.RootPlaces.{IsInInput, count_before, shifted}
use Rattle.shuffle_places.proofs.InputPlaces.{place_in_input, split_place, leaf_no_place, standing, stands_there}
use Rattle.shuffle_places.proofs.RootPlaces.{root_place, root_parts}
use Rattle.division.specs.declared.reducer.Reducer.{Reducer}
use Rattle.division.specs.Dividers.{Divides, DividesAtRoot, IsFirstDivider, IsFirstAtRoot, AreReducers, AreDividers, AreCandidates, IsLeastOf, IsLesser, AreGroups}
use Rattle.division.proofs.WholeTrees.{among_of_valid}

-- ---- candidates

-- a divider at the root with a lower number than the candidate at this place stands before it
earlier : (trees : List (Tree ℕ)) (reducers : List Reducer) (t : Tree ℕ) (candidates : List ℕ) → AreCandidates trees reducers t candidates → (at i : ℕ) → DividesAtRoot trees reducers t i
    → (at < length candidates → i < get_or candidates at 0) → (j : ℕ) × (j < at) × (get_or candidates j 0 ≡ i)
earlier trees reducers t candidates c at i d low = (p.0, by (dec_lt p.0 at) (dec_lt at p.0), p.2)
  where
    p : (j : ℕ) × (j < length candidates) × (get_or candidates j 0 ≡ i)
    p = place_of candidates i 0 (c.complete i d)

    by : Dec (p.0 < at) → Dec (at < p.0) → p.0 < at
    by (yes lt) q = lt
    by (no f) (yes lt) = let a = low (omega (arith, lt, p.1)) in let b = c.rising at p.0 lt p.1 in absurd (omega (arith, a, b, p.2))
    by (no f) (no g) =
        let same : p.0 ≡ at = omega (arith, f, g) in
        let a = low (omega (arith, same, p.1)) in
        let b : get_or candidates p.0 0 ≡ get_or candidates at 0 = ap (λ k. get_or candidates k 0) same in absurd (omega (arith, a, b, p.2))

module _ (trees : List (Tree ℕ)) (reducers : List Reducer) (t : Tree ℕ) (candidates : List ℕ) (c : AreCandidates trees reducers t candidates) (at : ℕ)
    (before : (j : ℕ) → j < at → DividesAtRoot trees reducers t (get_or candidates j 0) → ⊥) where
  pub none_lower : (bound : ℕ) → (at < length candidates → bound ≤ get_or candidates at 0) → (i : ℕ) → i < bound → DividesAtRoot trees reducers t i → ⊥
  none_lower bound h i lt d =
      let e = earlier trees reducers t candidates c at i d (λ l. let x = h l in omega (arith, x, lt)) in
      before e.0 e.1 (subst (DividesAtRoot trees reducers t) (sym e.2) d)

  pub one_more : (element : ℕ) → element ≡ get_or candidates at 0 → (DividesAtRoot trees reducers t element → ⊥) → (j : ℕ) → j < at + 1 → DividesAtRoot trees reducers t (get_or candidates j 0) → ⊥
  one_more element is f j lt d = by (dec_lt j at)
    where
      by : Dec (j < at) → ⊥
      by (yes l) = before j l d
      by (no n) = let same : j ≡ at = omega (arith, lt, n) in f (subst (DividesAtRoot trees reducers t) (ap (λ k. get_or candidates k 0) same ∙ sym is) d)

-- ---- the least of the inputs

pub least_more : (found : List (Option ℕ)) (done : List ℕ) (id : ℕ) (o p q : Option ℕ) → IsLeastOf found done o → slice_get found id ≡ Some p → IsLesser o p q → IsLeastOf found (done ++ (id ∷ [])) q
least_more found done id None None q h e l = subst (IsLeastOf found (done ++ (id ∷ []))) (sym l) (λ k m. by k (mem_either k done (id ∷ []) m))
  where
    by : (k : ℕ) → Mem k done ⊎ Mem k (id ∷ []) → slice_get found k ≡ Some None
    by k (inl m) = h k m
    by k (inr (inl s)) = ap (slice_get found) s ∙ e
    by k (inr (inr f)) = absurd f
least_more found done id None (Some b) q h e l = subst (IsLeastOf found (done ++ (id ∷ []))) (sym l)
    ((id, mem_right id done (id ∷ []) (inl refl), e), λ k p m s i w. low k p (mem_either k done (id ∷ []) m) s i w, λ k m. has k (mem_either k done (id ∷ []) m))
  where
    low : (k : ℕ) (p : Option ℕ) → Mem k done ⊎ Mem k (id ∷ []) → slice_get found k ≡ Some p → (i : ℕ) → p ≡ Some i → b ≤ i
    low k p (inl m) s i w = let n = h k m in absurd (cc (n, s, w))
    low k p (inr (inl x)) s i w = let same : Some (Some b) ≡ Some (Some i) = sym e ∙ ap (slice_get found) (sym x) ∙ s ∙ ap Some w in let eq : b ≡ i = cc same in omega (arith, eq)
    low k p (inr (inr f)) s i w = absurd f

    has : (k : ℕ) → Mem k done ⊎ Mem k (id ∷ []) → (o : Option ℕ) × (slice_get found k ≡ Some o)
    has k (inl m) = (None, h k m)
    has k (inr (inl x)) = (Some b, ap (slice_get found) x ∙ e)
    has k (inr (inr f)) = absurd f
least_more found done id (Some a) None q h e l = subst (IsLeastOf found (done ++ (id ∷ []))) (sym l)
    ((h.0.0, mem_left h.0.0 done (id ∷ []) h.0.1, h.0.2), λ k p m s i w. low k p (mem_either k done (id ∷ []) m) s i w, λ k m. has k (mem_either k done (id ∷ []) m))
  where
    low : (k : ℕ) (p : Option ℕ) → Mem k done ⊎ Mem k (id ∷ []) → slice_get found k ≡ Some p → (i : ℕ) → p ≡ Some i → a ≤ i
    low k p (inl m) s i w = h.1 k p m s i w
    low k p (inr (inl x)) s i w = let same : Some None ≡ Some (Some i) = sym e ∙ ap (slice_get found) (sym x) ∙ s ∙ ap Some w in absurd (cc same)
    low k p (inr (inr f)) s i w = absurd f

    has : (k : ℕ) → Mem k done ⊎ Mem k (id ∷ []) → (o : Option ℕ) × (slice_get found k ≡ Some o)
    has k (inl m) = h.2 k m
    has k (inr (inl x)) = (None, ap (slice_get found) x ∙ e)
    has k (inr (inr f)) = absurd f
least_more found done id (Some a) (Some b) q h e l = subst (IsLeastOf found (done ++ (id ∷ []))) (sym l.1)
    (stands l.4, λ k p m s i w. low k p (mem_either k done (id ∷ []) m) s i w, λ k m. has k (mem_either k done (id ∷ []) m))
  where
    stands : (l.0 ≡ a) ⊎ (l.0 ≡ b) → (k : ℕ) × Mem k (done ++ (id ∷ [])) × (slice_get found k ≡ Some (Some l.0))
    stands (inl x) = (h.0.0, mem_left h.0.0 done (id ∷ []) h.0.1, h.0.2 ∙ ap (λ y. Some (Some y)) (sym x))
    stands (inr x) = (id, mem_right id done (id ∷ []) (inl refl), e ∙ ap (λ y. Some (Some y)) (sym x))

    low : (k : ℕ) (p : Option ℕ) → Mem k done ⊎ Mem k (id ∷ []) → slice_get found k ≡ Some p → (i : ℕ) → p ≡ Some i → l.0 ≤ i
    low k p (inl m) s i w = let x = h.1 k p m s i w in omega (arith, x, l.2)
    low k p (inr (inl x)) s i w = let same : Some (Some b) ≡ Some (Some i) = sym e ∙ ap (slice_get found) (sym x) ∙ s ∙ ap Some w in let eq : b ≡ i = cc same in omega (arith, eq, l.3)
    low k p (inr (inr f)) s i w = absurd f

    has : (k : ℕ) → Mem k done ⊎ Mem k (id ∷ []) → (o : Option ℕ) × (slice_get found k ≡ Some o)
    has k (inl m) = h.2 k m
    has k (inr (inl x)) = (Some b, ap (slice_get found) x ∙ e)
    has k (inr (inr f)) = absurd f

-- ---- a vertex

module _ (trees : List (Tree ℕ)) (reducers : List Reducer) (found : List (Option ℕ)) (id l : ℕ) (ids : List ℕ) (store : IsStore trees) (hr : AreReducers trees reducers) (hf : AreDividers trees reducers found)
    (low : id < length trees) (is : tree_at trees id ≡ node l (row (map (tree_at trees) ids))) where
  abbrev here : Tree ℕ
  here = tree_at trees id

  root_divides : (e : ℕ) → DividesAtRoot trees reducers here e → Divides trees reducers here e
  root_divides e d =
      let r = hr e d.0 d.1 in
      (d.0, d.1, (numbers d.2.0 1 (tree_at trees d.0.lead), root_place d.0.arity here (tree_at trees d.0.lead) (held_valid trees id store low).rising r.lead_valid r.lead_node d.2.0 d.2.1))

  input_of_id : (i : ℕ) → Mem i ids → Mem (tree_at trees i) (inputs (row (map (tree_at trees) ids)))
  input_of_id i m = subst (Mem (tree_at trees i)) (sym (inputs-row (map (tree_at trees) ids))) (mem_map (tree_at trees) i ids m)

  input_divides : (i e : ℕ) → Mem i ids → Divides trees reducers (tree_at trees i) e → Divides trees reducers here e
  input_divides i e m d =
      let a = standing (row (map (tree_at trees) ids)) (tree_at trees i) (input_of_id i m) in (
        d.0,
        d.1,
        (
          shifted (count_before a.front) d.2.0,
          subst (λ t. IsPlace t (shifted (count_before a.front) d.2.0) (tree_at trees d.0.lead)) (ap (node l) (sym a.is) ∙ sym is)
              (place_in_input l a.front (tree_at trees i) a.back d.2.0 (tree_at trees d.0.lead) d.2.1),
        ),
      )

  -- a divider divides at the root or an input
  either : (e : ℕ) → Divides trees reducers here e → DividesAtRoot trees reducers here e ⊎ ((i : ℕ) × Mem i ids × Divides trees reducers (tree_at trees i) e)
  either e d = by (split_place l (row (map (tree_at trees) ids)) d.2.0 (tree_at trees d.0.lead) (subst (λ t. IsPlace t d.2.0 (tree_at trees d.0.lead)) is d.2.1))
    where
      by : Mem 1 d.2.0 ⊎ IsInInput (row (map (tree_at trees) ids)) d.2.0 (tree_at trees d.0.lead) → DividesAtRoot trees reducers here e ⊎ ((i : ℕ) × Mem i ids × Divides trees reducers (tree_at trees i) e)
      by (inl m) =
          let p = root_parts 255 d.0.arity here (tree_at trees d.0.lead) (among_of_valid here (held_valid trees id store low)) (hr e d.0 d.1).lead_valid d.2.0 d.2.1 m in
          inl (d.0, d.1, (p.0, p.1))
      by (inr h) =
          let m : Mem h.input (map (tree_at trees) ids) = subst (Mem h.input) (ap inputs (sym h.row_is) ∙ inputs-row (map (tree_at trees) ids)) (stands_there h.front h.input h.back) in
          let k = mem_of_map (tree_at trees) h.input ids m in
          inr (k.0, k.1, (d.0, d.1, (h.inner, subst (λ t. IsPlace t h.inner (tree_at trees d.0.lead)) k.2 h.place)))

  -- an entry tells that the divider isn't less
  not_less : (i e : ℕ) (o : Option ℕ) → slice_get found i ≡ Some o → Divides trees reducers (tree_at trees i) e → (f : ℕ) × (o ≡ Some f) × (f ≤ e)
  not_less i e None s d = absurd (hf i None s e d)
  not_less i e (Some f) s d = (f, refl, by (dec_lt e f))
    where
      by : Dec (e < f) → f ≤ e
      by (yes lt) = absurd ((hf i (Some f) s).1 e lt d)
      by (no n) = omega (arith, n)

  -- no input has a lower divider than the least
  above_least : (least : Option ℕ) → IsLeastOf found ids least → (i e : ℕ) → Mem i ids → Divides trees reducers (tree_at trees i) e → (m : ℕ) × (least ≡ Some m) × (m ≤ e)
  above_least None h i e m d = let n = not_less i e None (h i m) d in absurd (cc n.1)
  above_least (Some a) h i e m d =
      let s = h.2 i m in
      let n = not_less i e s.0 s.1 d in
      let b = h.1 i s.0 m s.1 n.0 n.1 in (a, refl, omega (arith, b, n.2))

  pub at_root : (least : Option ℕ) (bound e : ℕ) → IsLeastOf found ids least → MatchOption least (bound ≡ length reducers) (λ m. bound ≡ m) → IsFirstAtRoot trees reducers here bound (Some e) → IsFirstDivider trees reducers here (Some e)
  at_root least bound e h b f = (root_divides e f.1, λ i lt d. by i lt (either i d))
    where
      beyond : (o : Option ℕ) (m : ℕ) → o ≡ Some m → MatchOption o (bound ≡ length reducers) (λ m. bound ≡ m) → bound ≡ m
      beyond None m s g = absurd (cc s)
      beyond (Some n) m s g = let same : n ≡ m = cc s in g ∙ same

      by : (i : ℕ) → i < e → DividesAtRoot trees reducers here i ⊎ ((k : ℕ) × Mem k ids × Divides trees reducers (tree_at trees k) i) → ⊥
      by i lt (inl d) = f.2 i lt d
      by i lt (inr k) = let a = above_least least h k.0 i k.1 k.2 in let s = beyond least a.0 a.1 b in absurd (omega (arith, s, a.2, lt, f.0))

  pub in_inputs : (least : Option ℕ) (bound : ℕ) → IsLeastOf found ids least → MatchOption least (bound ≡ length reducers) (λ m. bound ≡ m) → IsFirstAtRoot trees reducers here bound None → IsFirstDivider trees reducers here least
  in_inputs None bound h b f = λ e d. by e d (either e d)
    where
      by : (e : ℕ) → Divides trees reducers here e → DividesAtRoot trees reducers here e ⊎ ((k : ℕ) × Mem k ids × Divides trees reducers (tree_at trees k) e) → ⊥
      by e d (inl r) = let w = slice_get_within reducers e d.0 d.1 in f e (omega (arith, w, b)) r
      by e d (inr k) = let a = above_least None h k.0 e k.1 k.2 in absurd (cc a.1)
  in_inputs (Some m) bound h b f = (input_divides h.0.0 m h.0.1 (hf h.0.0 (Some m) h.0.2).0, λ i lt d. by i lt (either i d))
    where
      by : (i : ℕ) → i < m → DividesAtRoot trees reducers here i ⊎ ((k : ℕ) × Mem k ids × Divides trees reducers (tree_at trees k) i) → ⊥
      by i lt (inl r) = f i (omega (arith, lt, b)) r
      by i lt (inr k) = let a = above_least (Some m) h k.0 i k.1 k.2 in let same : m ≡ a.0 = cc a.1 in absurd (omega (arith, same, a.2, lt))

  -- where no input has the first divider, it divides at the root
  pub root_only : (e : ℕ) → IsFirstDivider trees reducers here (Some e) → All (λ i. i < id) ids → id < length found → ((i : ℕ) → Mem i ids → slice_get found i ≡ Some (Some e) → ⊥) → DividesAtRoot trees reducers here e
  root_only e f lower long none = by (either e f.0)
    where
      in_input : (k : ℕ) → Mem k ids → Divides trees reducers (tree_at trees k) e → ⊥
      in_input k m d =
          let p = place_of ids k 0 m in
          let less : k < id = subst (λ i. i < id) p.2 (lower p.0 0 p.1) in
          let entry = slice_get-get_or found k None (omega (arith, less, long)) in
          let n = not_less k e (get_or found k None) entry d in
          again n.0 (entry ∙ ap Some n.1) n.2 (dec_lt n.0 e)
        where
          again : (g : ℕ) → slice_get found k ≡ Some (Some g) → g ≤ e → Dec (g < e) → ⊥
          again g s le (yes lt) = f.1 g lt (input_divides k g m (hf k (Some g) s).0)
          again g s le (no q) = let same : g ≡ e = omega (arith, le, q) in none k m (s ∙ ap (λ x. Some (Some x)) same)

      by : DividesAtRoot trees reducers here e ⊎ ((i : ℕ) × Mem i ids × Divides trees reducers (tree_at trees i) e) → DividesAtRoot trees reducers here e
      by (inl d) = d
      by (inr k) = absurd (in_input k.0 k.1 k.2)

  -- the group of the label has the candidates
  pub group_candidates : (groups : List (List ℕ)) (g : List ℕ) → AreGroups trees reducers groups → MatchOption (slice_get groups l) (g ≡ []) (λ x. g ≡ x) → AreCandidates trees reducers here g
  group_candidates groups g h m = by (slice_get groups l) refl m
    where
      label : (e : ℕ) (d : DividesAtRoot trees reducers here e) → (s : Row ℕ) × (tree_at trees d.0.lead ≡ node l s)
      label e d = root_label (tree_at trees d.0.lead) (hr e d.0 d.1).lead_node (d.2.1.whole ∙ is)
        where
          root_label : (t : Tree ℕ) → IsNode t → graft t d.2.0 ≡ node l (row (map (tree_at trees) ids)) → (s : Row ℕ) × (t ≡ node l s)
          root_label (leaf i) n q = absurd n
          root_label (node k s) n q = (s, ap (λ x. node x s) (node-eq k l (graft_row s d.2.0) (row (map (tree_at trees) ids)) q).0)

      stands : (e : ℕ) → DividesAtRoot trees reducers here e → (x : List ℕ) × (slice_get groups l ≡ Some x) × Mem e x
      stands e d = let k = label e d in h.complete e d.0 d.1 l k.0 k.1

      by : (o : Option (List ℕ)) → slice_get groups l ≡ o → MatchOption o (g ≡ []) (λ x. g ≡ x) → AreCandidates trees reducers here g
      by None s e = subst (AreCandidates trees reducers here) (sym e) record {
        within = λ n d lt. absurd (omega arith);
        rising = λ j k lt le. absurd (omega arith);
        complete = λ i d. let k = stands i d in absurd (cc (k.1, s));
      }
      by (Some x) s e = subst (AreCandidates trees reducers here) (sym e) record {
        within = h.within l x s;
        rising = h.rising l x s;
        complete = λ i d. let k = stands i d in let same : k.0 ≡ x = cc (k.1, s) in subst (Mem i) same k.2;
      }

pub leaf_free : (trees : List (Tree ℕ)) (reducers : List Reducer) (t : Tree ℕ) (i : ℕ) → t ≡ leaf i → IsFirstDivider trees reducers t None
leaf_free trees reducers t i e = λ n d. leaf_no_place i d.2.0 (tree_at trees d.0.lead) (subst (λ u. IsPlace u d.2.0 (tree_at trees d.0.lead)) e d.2.1)
