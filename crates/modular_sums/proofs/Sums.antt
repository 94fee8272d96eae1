-- Coefficients of formal sums, spans and their multiples.
use Rattle.std.proofs.Common.{suc, ◌%◌, sym, ap, ◌≡◌, ℕ, ◌+◌, ◌*◌, List, [], ◌∷◌, arith, refl, ◌∙◌}
use mathlib.Core.List.{◌++◌}
use mathlib.Core.Path.{ap₂}
use Rattle.modular_sums.specs.Sums.{moved, AllTerms, coef, scale, Same, expand, IsLinearCombination}
use Rattle.modular_sums.proofs.Residues.{congruent_drop, congruent_add, congruent_mul, congruent_gone}
use Rattle.modular_sums.specs.Residues.{IsCongruent}
use Rattle.modular_sums.specs.Lists.{choose}

pub choose-mul : {A : Type 0} (d : Dec A) (k c : ℕ) → choose d (k * c) 0 ≡ k * choose d c 0
choose-mul (yes _) k c = refl
choose-mul (no _) k c = omega arith

pub scale-scale : {M : Type 0} (c d : ℕ) (e : List (ℕ × M)) → scale (c * d) e ≡ scale c (scale d e)
unfolding scale
scale-scale c d [] = refl
scale-scale c d (x ∷ e) = let a : c * d * x.0 ≡ c * (d * x.0) = omega arith in ap₂ (λ k l. (k, x.1) ∷ l) a (scale-scale c d e)

module _ {M : Type 0} (dec : Discrete M) where
  pub coef-append : (e f : List (ℕ × M)) (t : M) → coef dec (e ++ f) t ≡ coef dec e t + coef dec f t
  unfolding coef
  coef-append [] f t = omega arith
  coef-append (x ∷ e) f t = omega (arith, coef-append e f t)

  pub coef-scale : (c : ℕ) (e : List (ℕ × M)) (t : M) → coef dec (scale c e) t ≡ c * coef dec e t
  unfolding coef scale
  coef-scale c [] t = omega arith
  coef-scale c (x ∷ e) t = omega (arith, coef-scale c e t, choose-mul (dec x.1 t) c x.0)

  pub coef-less : (q : ℕ) (e f : List (ℕ × M)) (t : M) → coef dec (e ++ scale q f) t ≡ coef dec e t + q * coef dec f t
  coef-less q e f t = coef-append e (scale q f) t ∙ ap (λ m. coef dec e t + m) (coef-scale q f t)

  module _ {I : Type 0} (value : I → List (ℕ × M)) where
    pub coef-expand : (x : ℕ × I) (l : List (ℕ × I)) (t : M) → coef dec (expand value (x ∷ l)) t ≡ x.0 * coef dec (value x.1) t + coef dec (expand value l) t
    unfolding expand
    coef-expand x l t = rw (coef-append, coef-scale)

    pub coef-expand_append : (k l : List (ℕ × I)) (t : M) → coef dec (expand value (k ++ l)) t ≡ coef dec (expand value k) t + coef dec (expand value l) t
    unfolding expand coef
    coef-expand_append [] l t = omega arith
    coef-expand_append (x ∷ k) l t = rw (coef-append, coef-append) (omega (arith, coef-expand_append k l t))

    pub coef-expand_scale : (c : ℕ) (l : List (ℕ × I)) (t : M) → coef dec (expand value (scale c l)) t ≡ c * coef dec (expand value l) t
    unfolding expand scale coef
    coef-expand_scale c [] t = omega arith
    coef-expand_scale c (x ∷ l) t = simp (coef-append, coef-scale) (omega (arith, coef-expand_scale c l t))

    pub combination-append : (q : ℕ) {e f : List (ℕ × M)} → IsLinearCombination dec value q e → IsLinearCombination dec value q f → IsLinearCombination dec value q (e ++ f)
    combination-append q {e} {f} m n = record {
      uses = m.uses ++ n.uses;
      adds_up = λ t. rw (coef-append e f t, coef-expand_append m.uses n.uses t) (congruent_add q _ _ _ _ (m.adds_up t) (n.adds_up t));
    }

    pub combination-scale : (q c : ℕ) {e : List (ℕ × M)} → IsLinearCombination dec value q e → IsLinearCombination dec value q (scale c e)
    combination-scale q c {e} m = record {
      uses = scale c m.uses;
      adds_up = λ t. rw (coef-scale c e t, coef-expand_scale c m.uses t) (congruent_mul q c c _ _ refl (m.adds_up t));
    }

    pub combination-same : (q : ℕ) {e f : List (ℕ × M)} → Same dec q e f → IsLinearCombination dec value q f → IsLinearCombination dec value q e
    combination-same q s m = record { uses = m.uses; adds_up = λ t. s t ∙ m.adds_up t }

turn : (q a b c : ℕ) → IsCongruent q (b + q * a) c → IsCongruent q (a + q * b) (q * c)
turn q a b c h =
    let k : IsCongruent q (q * (b + q * a)) (q * c) = congruent_mul q q q _ _ refl h in
    let l : IsCongruent q (q * (b + q * a) + q * a) (q * c + q * a) = congruent_add q _ _ _ _ k refl in
    let e : q * (b + q * a) + q * a ≡ q * b + (q * a + q * (q * a)) = omega arith in
    let m : IsCongruent q (q * b) (q * c + q * a) = sym (congruent_drop q (q * b) (q * a)) ∙ (rw e at l) in
    let o : IsCongruent q (q * b + a) (q * c + q * a + a) = congruent_add q _ _ a a m refl in
    let e1 : q * b + a ≡ a + q * b = omega arith in
    let e2 : q * c + q * a + a ≡ q * c + (a + q * a) = omega arith in
    (rw (e1, e2) at o) ∙ congruent_drop q (q * c) a

module _ {M : Type 0} (dec : Discrete M) (q : ℕ) where
  -- a difference the other way round
  pub Same-turned : (e f g : List (ℕ × M)) → Same dec q (e ++ scale q f) g → Same dec q (f ++ scale q e) (scale q g)
  Same-turned e f g h t =
      let k : IsCongruent q (coef dec e t + q * coef dec f t) (coef dec g t) = rw (coef-append dec e (scale q f) t, coef-scale dec q f t) at (h t) in
      rw (coef-append dec f (scale q e) t, coef-scale dec q e t, coef-scale dec q g t) (turn q (coef dec f t) (coef dec e t) (coef dec g t) k)

  -- a sum less itself
  pub Same-cancelled : (e : List (ℕ × M)) (t : M) → IsCongruent q (coef dec (e ++ scale q e) t) 0
  Same-cancelled e t = rw (coef-append dec e (scale q e) t, coef-scale dec q e t) (congruent_gone q (coef dec e t))

-- a multiple of a sum of instances is the sum of the multiples
pub Same-expand_scale : {M I : Type 0} (dec : Discrete M) (q c : ℕ) (value : I → List (ℕ × M)) (l : List (ℕ × I)) → Same dec q (scale c (expand value l)) (expand value (scale c l))
Same-expand_scale dec q c value l t = ap (λ n. n % suc q) (coef-scale dec c (expand value l) t ∙ sym (coef-expand_scale dec value c l t))

pub AllTerms-append : {X : Type 0} (k l : List (ℕ × X)) (P : X → Type 0) → AllTerms k P → AllTerms l P → AllTerms (k ++ l) P
AllTerms-append [] l P h g = g
AllTerms-append (x ∷ k) l P h g = (h.0, AllTerms-append k l P h.1 g)

pub AllTerms-scale : {X : Type 0} (c : ℕ) (l : List (ℕ × X)) (P : X → Type 0) → AllTerms l P → AllTerms (scale c l) P
unfolding scale
AllTerms-scale c [] P h = tt
AllTerms-scale c (x ∷ l) P h = (h.0, AllTerms-scale c l P h.1)

pub AllTerms-moved : {X Y : Type 0} (f : X → Y) (l : List (ℕ × X)) (P : Y → Type 0) → AllTerms l (λ x. P (f x)) → AllTerms (moved f l) P
AllTerms-moved f [] P h = tt
AllTerms-moved f (x ∷ l) P h = (h.0, AllTerms-moved f l P h.1)

-- the sum of instances that stand for others with the same values
pub expand-moved : {I J M : Type 0} (vi : I → List (ℕ × M)) (vj : J → List (ℕ × M)) (g : I → J) → ((i : I) → vj (g i) ≡ vi i) → (l : List (ℕ × I)) → expand vj (moved g l) ≡ expand vi l
unfolding expand
expand-moved vi vj g h [] = refl
expand-moved vi vj g h (x ∷ l) = ap₂ (λ a b. scale x.0 a ++ b) (h x.1) (expand-moved vi vj g h l)
