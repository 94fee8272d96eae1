-- The diamond lemma over any monomials with a rank.
use Rattle.std.proofs.Common.{◌≡◌, ◌≢◌, ℕ, zero, suc, ◌+◌, ◌*◌, ◌%◌, ◌≤◌, ◌<◌, List, [], ◌∷◌, arith, refl, sym, ◌∙◌, ap, subst, ◌⊎◌, inl, inr}
use mathlib.Core.List.{◌++◌}
use native.Mathlib.Decide.{dec_lt, ℕ_discrete}
use Rattle.modular_sums.specs.Residues.{IsCongruent}
use Rattle.modular_sums.specs.Sums.{coef, scale, Same, expand}
use Rattle.modular_sums.proofs.Residues.{congruent_add, congruent_mul, congruent_drop}
use Rattle.modular_sums.proofs.Sums.{AllTerms-scale, AllTerms-append, coef-append, coef-scale, coef-expand, coef-expand_append, coef-expand_scale}
use Rattle.modular_sums.specs.Diamond.{Meet, HaveLeadingTerms, LeadsBelow, Led}

module _ (M : Type 0) (dec : Discrete M) (rank : M → ℕ) (q : ℕ) where
  module _ (I : Type 0) (value : I → List (ℕ × M)) (lead : I → M) where
    abbrev Outcome : List (ℕ × M) → Type 0
    Outcome e = Same dec q e [] ⊎ Led dec rank q lead e

    Outcome-same : (e f : List (ℕ × M)) → Same dec q e f → Outcome f → Outcome e
    Outcome-same e f s (inl z) = inl (λ t. s t ∙ z t)
    Outcome-same e f s (inr l) = inr record {
      by_instance = l.by_instance;
      there = λ h. l.there (sym (s (lead l.by_instance)) ∙ h);
      above = λ t ne le. s t ∙ l.above t ne le;
    }

    HostsBelow-up : (n m : ℕ) (l : List (ℕ × I)) → n ≤ m → LeadsBelow rank lead n l → LeadsBelow rank lead m l
    HostsBelow-up n m [] le h = tt
    HostsBelow-up n m (x ∷ l) le h = (omega arith, HostsBelow-up n m l le h.1)

    module _ (monic : HaveLeadingTerms dec rank q value lead)
        (meet : (i j : I) → lead i ≡ lead j → Meet dec rank q value lead i j)
        (one_host : (i j : I) → rank (lead i) ≡ rank (lead j) → lead i ≡ lead j) where
      low_coef : (n : ℕ) (l : List (ℕ × I)) (t : M) → LeadsBelow rank lead n l → n ≤ rank t → IsCongruent q (coef dec (expand value l) t) 0
      unfolding expand coef
      low_coef n [] t h le = refl
      low_coef n (x ∷ l) t h le =
          let ne : t ≢ lead x.1 = λ e. let r : rank t ≡ rank (lead x.1) = ap rank e in omega arith in
          let a : IsCongruent q (x.0 * coef dec (value x.1) t) (x.0 * 0) = congruent_mul q x.0 x.0 _ 0 refl (monic.above x.1 t ne (omega arith)) in
          let z : x.0 * 0 + 0 ≡ 0 = omega arith in
          rw (coef-append dec (scale x.0 (value x.1)) (expand value l) t, coef-scale dec x.0 (value x.1) t)
          (rw z at (congruent_add q _ _ _ _ a (low_coef n l t h.1 le)))

      record Lower (n : ℕ) (l : List (ℕ × I)) : Type 0 where
        uses : List (ℕ × I)
        lower : LeadsBelow rank lead n uses
        same : Same dec q (expand value l) (expand value uses)

      record Split (n : ℕ) (l : List (ℕ × I)) : Type 0 where
        by : ℕ
        top : I
        is_at : rank (lead top) ≡ n
        uses : List (ℕ × I)
        lower : LeadsBelow rank lead n uses
        same : (t : M) → IsCongruent q (coef dec (expand value l) t) (by * coef dec (value top) t + coef dec (expand value uses) t)

      -- one more use whose host is lower
      cons_low : (n : ℕ) (x : ℕ × I) (l : List (ℕ × I)) → rank (lead x.1) < n → Lower n l ⊎ Split n l → Lower n (x ∷ l) ⊎ Split n (x ∷ l)
      cons_low n x l lt (inl r) = inl record {
        uses = x ∷ r.uses;
        lower = (lt, r.lower);
        same = λ t. rw (coef-expand dec value x l t, coef-expand dec value x r.uses t) (congruent_add q _ _ _ _ refl (r.same t));
      }
      cons_low n x l lt (inr r) = inr record {
        by = r.by;
        top = r.top;
        is_at = r.is_at;
        uses = x ∷ r.uses;
        lower = (lt, r.lower);
        same = λ t.
            let a = coef dec (value x.1) t in
            let b = coef dec (value r.top) t in
            let u = coef dec (expand value r.uses) t in
            let e : r.by * b + (x.0 * a + u) ≡ x.0 * a + (r.by * b + u) = omega arith in
            rw (coef-expand dec value x l t, coef-expand dec value x r.uses t, e) (congruent_add q _ _ _ _ refl (r.same t));
      }

      -- one more use whose host has rank n
      cons_top : (n : ℕ) (x : ℕ × I) (l : List (ℕ × I)) → rank (lead x.1) ≡ n → Lower n l ⊎ Split n l → Split n (x ∷ l)
      cons_top n x l at (inl r) = record {
        by = x.0;
        top = x.1;
        is_at = at;
        uses = r.uses;
        lower = r.lower;
        same = λ t. rw (coef-expand dec value x l t) (congruent_add q _ _ _ _ refl (r.same t));
      }
      cons_top n x l at (inr r) =
          record {
            by = x.0 + r.by;
            top = r.top;
            is_at = r.is_at;
            uses = scale x.0 m.uses ++ r.uses;
            lower = AllTerms-append _ r.uses (λ i. rank (lead i) < n) (AllTerms-scale x.0 m.uses (λ i. rank (lead i) < n) (subst (λ k. LeadsBelow rank lead k m.uses) at m.lower)) r.lower;
            same = λ t. top_sum x.0 r.by (coef dec (value x.1) t) (coef dec (value r.top) t) (coef dec (expand value m.uses) t)
                (coef dec (expand value r.uses) t) (coef dec (expand value l) t) _ _
                (coef-expand dec value x l t)
                (coef-expand_append dec value (scale x.0 m.uses) r.uses t ∙ ap (λ k. k + coef dec (expand value r.uses) t) (coef-expand_scale dec value x.0 m.uses t))
                (differ t (m.adds_up t))
                (r.same t);
          }
        where
          m : Meet dec rank q value lead x.1 r.top
          m = meet x.1 r.top (one_host x.1 r.top (at ∙ sym r.is_at))

          differ : (t : M) → IsCongruent q (coef dec (value x.1 ++ scale q (value r.top)) t) (coef dec (expand value m.uses) t)
              → IsCongruent q (coef dec (value x.1) t + q * coef dec (value r.top) t) (coef dec (expand value m.uses) t)
          differ t h = rw (coef-append dec (value x.1) (scale q (value r.top)) t, coef-scale dec q (value r.top) t) at h

          top_sum : (c d a b m u l lhs rhs : ℕ) → lhs ≡ c * a + l → rhs ≡ c * m + u → IsCongruent q (a + q * b) m → IsCongruent q l (d * b + u)
              → IsCongruent q lhs ((c + d) * b + rhs)
          top_sum c d a b m u l lhs rhs el er h k =
              let s1 : IsCongruent q (c * (a + q * b) + l) (c * m + (d * b + u)) = congruent_add q _ _ _ _ (congruent_mul q c c _ _ refl h) k in
              let s2 : IsCongruent q (c * (a + q * b) + l + c * b) (c * m + (d * b + u) + c * b) = congruent_add q _ _ _ _ s1 refl in
              let e1 : c * (a + q * b) + l + c * b ≡ c * a + l + (c * b + q * (c * b)) = omega arith in
              let e2 : c * m + (d * b + u) + c * b ≡ (c + d) * b + (c * m + u) = omega arith in
              rw (el, er) (sym (congruent_drop q (c * a + l) (c * b)) ∙ (rw (e1, e2) at s2))

      place : (n : ℕ) (x : ℕ × I) (l : List (ℕ × I)) → rank (lead x.1) < suc n → Dec (rank (lead x.1) < n) → Lower n l ⊎ Split n l → Lower n (x ∷ l) ⊎ Split n (x ∷ l)
      place n x l h (yes lt) r = cons_low n x l lt r
      place n x l h (no ge) r = inr (cons_top n x l (omega arith) r)

      collect : (n : ℕ) (l : List (ℕ × I)) → LeadsBelow rank lead (suc n) l → Lower n l ⊎ Split n l
      collect n [] h = inl record { uses = []; lower = tt; same = λ t. refl }
      collect n (x ∷ l) h = place n x l h.0 (dec_lt (rank (lead x.1)) n) (collect n l h.1)

      conclude : (n : ℕ) (l : List (ℕ × I)) → Split n l → ((k : List (ℕ × I)) → LeadsBelow rank lead n k → Outcome (expand value k)) → Outcome (expand value l)
      conclude n l s ih = by_top (ℕ_discrete (s.by % suc q) (0 % suc q))
        where
          gone : (c a u : ℕ) → IsCongruent q c 0 → IsCongruent q (c * a + u) u
          gone c a u z =
              let k : IsCongruent q (c * a + u) (0 * a + u) = congruent_add q _ _ u u (congruent_mul q c 0 a a z refl) refl in
              let e : 0 * a + u ≡ u = omega arith in
              rw e at k

          by_top : Dec (IsCongruent q s.by 0) → Outcome (expand value l)
          by_top (yes z) = Outcome-same _ (expand value s.uses)
              (λ t. s.same t ∙ gone s.by _ _ z)
              (ih s.uses s.lower)
          by_top (no nz) = inr record {
            by_instance = s.top;
            there = λ z. nz (one s.by _ _ (monic.at_lead s.top) (low_coef n s.uses (lead s.top) s.lower (omega (arith, s.is_at))) (sym (s.same (lead s.top)) ∙ z));
            above = λ t ne le. s.same t ∙ none s.by _ _ (monic.above s.top t ne le) (low_coef n s.uses t s.lower (omega (arith, s.is_at)));
          }
            where
              one : (c a u : ℕ) → IsCongruent q a 1 → IsCongruent q u 0 → IsCongruent q (c * a + u) 0 → IsCongruent q c 0
              one c a u ha hu h =
                  let k : IsCongruent q (c * a + u) (c * 1 + 0) = congruent_add q _ _ _ _ (congruent_mul q c c _ _ refl ha) hu in
                  let e : c * 1 + 0 ≡ c = omega arith in
                  sym (rw e at k) ∙ h

              none : (c a u : ℕ) → IsCongruent q a 0 → IsCongruent q u 0 → IsCongruent q (c * a + u) 0
              none c a u ha hu =
                  let k : IsCongruent q (c * a + u) (c * 0 + 0) = congruent_add q _ _ _ _ (congruent_mul q c c _ _ refl ha) hu in
                  let e : c * 0 + 0 ≡ 0 = omega arith in
                  rw e at k

      by_split : (n : ℕ) (l : List (ℕ × I)) → ((k : List (ℕ × I)) → LeadsBelow rank lead n k → Outcome (expand value k)) → Lower n l ⊎ Split n l
          → Outcome (expand value l)
      by_split n l ih (inl r) = Outcome-same _ (expand value r.uses) r.same (ih r.uses r.lower)
      by_split n l ih (inr s) = conclude n l s ih

      below : (n : ℕ) (l : List (ℕ × I)) → LeadsBelow rank lead n l → Outcome (expand value l)
      unfolding expand
      below zero [] h = inl (λ t. refl)
      below zero (x ∷ l) h = absurd (omega (arith, h.0))
      below (suc n) l h = by_split n l (below n) (collect n l h)

      bounded : (l : List (ℕ × I)) → (n : ℕ) × LeadsBelow rank lead n l
      bounded [] = (0, tt)
      bounded (x ∷ l) =
          let r = bounded l in
          (suc (rank (lead x.1) + r.0), (omega arith, HostsBelow-up r.0 _ l (omega arith) r.1))

      -- a sum of instances is zero, or the host of an instance leads it
      pub diamond : (l : List (ℕ × I)) → Same dec q (expand value l) [] ⊎ Led dec rank q lead (expand value l)
      diamond l = let b = bounded l in below b.0 l b.1
