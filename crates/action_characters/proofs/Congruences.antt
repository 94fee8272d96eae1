-- Sums that differ by a sum of instances, and linear maps.
use Rattle.std.proofs.Common.{◌≡◌, ℕ, suc, ◌+◌, ◌*◌, ◌%◌, List, [], ◌∷◌, refl, sym, ◌∙◌, ap, arith}
use mathlib.Core.List.{◌++◌}
use mathlib.Core.Path.{ap₂}
use Rattle.modular_sums.specs.Residues.{IsCongruent}
use Rattle.modular_sums.specs.Sums.{coef, scale, Same, expand, IsLinearCombination, AllTerms}
use Rattle.modular_sums.proofs.Residues.{congruent_add, congruent_mul}
use Rattle.modular_sums.proofs.Sums.{coef-append, coef-scale, coef-expand_append, coef-expand_scale, combination-append, combination-scale, combination-same, AllTerms-append, AllTerms-scale}
use Rattle.modular_sums.proofs.Images.{same_sum, sum_over-append, sum_over-scale}
use Rattle.modular_sums.proofs.Replacements.{sum_over, sum_over_ext}
use Rattle.modular_sums.proofs.Differences.{same_gone, same_forms_apart}
use Rattle.modular_sums.proofs.Links.{member_zero, member_expand}
use Rattle.action_characters.specs.ModularTraces.{KeepsSpans}

-- the coefficient of a sum of values is the sum of the coefficients
pub coef-expand_sum : {M I : Type 0} (dec : Discrete M) (value : I → List (ℕ × M)) (l : List (ℕ × I)) (t : M) → coef dec (expand value l) t ≡ sum_over l (λ i. coef dec (value i) t)
unfolding expand coef
coef-expand_sum dec value [] t = refl
coef-expand_sum dec value (x ∷ l) t = rw (coef-append dec (scale x.0 (value x.1)) (expand value l) t, coef-scale dec x.0 (value x.1) t, coef-expand_sum dec value l t) refl

-- a sum over a sum of values
sum_over-expand : {M I : Type 0} (value : I → List (ℕ × M)) (l : List (ℕ × I)) (g : M → ℕ) → sum_over (expand value l) g ≡ sum_over l (λ i. sum_over (value i) g)
unfolding expand
sum_over-expand value [] g = refl
sum_over-expand value (x ∷ l) g =
    sum_over-append (scale x.0 (value x.1)) (expand value l) g ∙ ap₂ (λ m n. m + n) (sum_over-scale x.0 (value x.1) g) (sum_over-expand value l g)

-- the image of a sum under a linear map depends on its coefficients alone
pub Same-expand : {M N : Type 0} (decm : Discrete M) (decn : Discrete N) (q : ℕ) (image : M → List (ℕ × N)) (e f : List (ℕ × M)) → Same decm q e f → Same decn q (expand image e) (expand image f)
Same-expand {M} decm decn q image e f h t =
    rw (coef-expand_sum decn image e t, coef-expand_sum decn image f t) (same_sum M decm q e f (λ x. coef decn (image x) t) h)

-- one linear map after another
pub expand-expand : {L M N : Type 0} (dec : Discrete N) (q : ℕ) (first : L → List (ℕ × M)) (second : M → List (ℕ × N)) (l : List (ℕ × L))
    → Same dec q (expand second (expand first l)) (expand (λ x. expand second (first x)) l)
expand-expand dec q first second l t = ap (λ n. n % suc q)
    (coef-expand_sum dec second (expand first l) t ∙ sum_over-expand first l (λ y. coef dec (second y) t)
    ∙ sum_over_ext l (λ x. sum_over (first x) (λ y. coef dec (second y) t)) (λ x. coef dec (expand second (first x)) t) (λ x. sym (coef-expand_sum dec second (first x) t))
    ∙ sym (coef-expand_sum dec (λ x. expand second (first x)) l t))

-- the monomials of the image
pub AllTerms-expand : {M N : Type 0} (image : M → List (ℕ × N)) (P : M → Type 0) (Q : N → Type 0) (e : List (ℕ × M)) → ((x : M) → P x → AllTerms (image x) Q) → AllTerms e P → AllTerms (expand image e) Q
unfolding expand
AllTerms-expand image P Q [] f h = tt
AllTerms-expand image P Q (x ∷ e) f h =
    AllTerms-append (scale x.0 (image x.1)) (expand image e) Q (AllTerms-scale x.0 (image x.1) Q (f x.1 h.0)) (AllTerms-expand image P Q e f h.1)

module _ {M I : Type 0} (dec : Discrete M) (value : I → List (ℕ × M)) (q : ℕ) where
  -- the sums differ by a sum of instances
  abbrev pub Congruent : List (ℕ × M) → List (ℕ × M) → Type 0
  Congruent e f = IsLinearCombination dec value q (e ++ scale q f)

  -- two sums that are congruent to one
  pub congruent_both : (d f g : List (ℕ × M)) → Congruent d f → Congruent d g → Congruent f g
  congruent_both d f g a b = combination-same dec value q {e = f ++ scale q g} {f = (scale q (d ++ scale q f) ++ (d ++ scale q d)) ++ (d ++ scale q g)} (same_forms_apart dec q d d f g)
      (combination-append dec value q {e = scale q (d ++ scale q f) ++ (d ++ scale q d)} {f = d ++ scale q g}
      (combination-append dec value q {e = scale q (d ++ scale q f)} {f = d ++ scale q d} (combination-scale dec value q q {e = d ++ scale q f} a)
      (combination-same dec value q {e = d ++ scale q d} {f = []} (same_gone dec q d) (member_zero dec value q))) b)

  pub congruent_same : (d e f g : List (ℕ × M)) → Same dec q d e → Same dec q f g → Congruent e g → Congruent d f
  congruent_same d e f g a b h = combination-same dec value q {e = d ++ scale q f} {f = e ++ scale q g} same h
    where
      same : Same dec q (d ++ scale q f) (e ++ scale q g)
      same t = rw (coef-append dec d (scale q f) t, coef-append dec e (scale q g) t, coef-scale dec q f t, coef-scale dec q g t)
          (congruent_add q _ _ _ _ (a t) (congruent_mul q q q _ _ refl (b t)))

  pub congruent_refl : (e : List (ℕ × M)) → Congruent e e
  congruent_refl e = combination-same dec value q {e = e ++ scale q e} {f = []} (same_gone dec q e) (member_zero dec value q)

  pub congruent_turned : (e f : List (ℕ × M)) → Congruent e f → Congruent f e
  congruent_turned e f h = congruent_both e f e h (congruent_refl e)

  pub congruent_then : (e f g : List (ℕ × M)) → Congruent e f → Congruent f g → Congruent e g
  congruent_then e f g h k = congruent_both f e g (congruent_turned e f h) k

  congruent_step : (c : ℕ) (a b e f : List (ℕ × M)) → Congruent a b → Congruent e f → Congruent (scale c a ++ e) (scale c b ++ f)
  congruent_step c a b e f h k = combination-same dec value q {e = (scale c a ++ e) ++ scale q (scale c b ++ f)} {f = scale c (a ++ scale q b) ++ (e ++ scale q f)} same
      (combination-append dec value q {e = scale c (a ++ scale q b)} {f = e ++ scale q f} (combination-scale dec value q c {e = a ++ scale q b} h) k)
    where
      same : Same dec q ((scale c a ++ e) ++ scale q (scale c b ++ f)) (scale c (a ++ scale q b) ++ (e ++ scale q f))
      same t = rw (
        coef-append dec (scale c a ++ e) (scale q (scale c b ++ f)) t,
        coef-append dec (scale c a) e t,
        coef-scale dec q (scale c b ++ f) t,
        coef-append dec (scale c b) f t,
        coef-scale dec c a t,
        coef-scale dec c b t,
        coef-append dec (scale c (a ++ scale q b)) (e ++ scale q f) t,
        coef-scale dec c (a ++ scale q b) t,
        coef-append dec a (scale q b) t,
        coef-append dec e (scale q f) t,
        coef-scale dec q b t,
        coef-scale dec q f t,
      )
          (terms (coef dec a t) (coef dec b t) (coef dec e t) (coef dec f t))
        where
          terms : (u v w z : ℕ) → IsCongruent q (c * u + w + q * (c * v + z)) (c * (u + q * v) + (w + q * z))
          terms u v w z = let k : c * u + w + q * (c * v + z) ≡ c * (u + q * v) + (w + q * z) = omega arith in ap (λ n. n % suc q) k

  -- two linear maps whose values are congruent at each monomial of a sum
  pub congruent_images : {L : Type 0} (first second : L → List (ℕ × M)) (P : L → Type 0) → ((x : L) → P x → Congruent (first x) (second x))
      → (e : List (ℕ × L)) → AllTerms e P → Congruent (expand first e) (expand second e)
  unfolding expand
  congruent_images first second P f [] h = congruent_refl []
  congruent_images first second P f (x ∷ e) h = congruent_step x.0 (first x.1) (second x.1) (expand first e) (expand second e) (f x.1 h.0) (congruent_images first second P f e h.1)

-- a linear map that keeps the spans keeps congruence
pub congruent_kept : {M N I J : Type 0} (decm : Discrete M) (decn : Discrete N) (q : ℕ) (value : I → List (ℕ × M)) (other : J → List (ℕ × N)) (image : M → List (ℕ × N))
    → KeepsSpans decn q value other image → (e f : List (ℕ × M)) → Congruent decm value q e f → Congruent decn other q (expand image e) (expand image f)
congruent_kept {M} {N} decm decn q value other image keeps e f h =
    combination-same decn other q {e = expand image e ++ scale q (expand image f)} {f = expand (λ i. expand image (value i)) h.uses} same
    (member_expand decn q (λ i. expand image (value i)) other keeps h.uses)
  where
    parts : (t : N) → coef decn (expand image e ++ scale q (expand image f)) t ≡ coef decn (expand image (e ++ scale q f)) t
    parts t = coef-append decn (expand image e) (scale q (expand image f)) t
        ∙ ap (λ n. coef decn (expand image e) t + n) (coef-scale decn q (expand image f) t ∙ sym (coef-expand_scale decn image q f t))
        ∙ sym (coef-expand_append decn image e (scale q f) t)

    same : Same decn q (expand image e ++ scale q (expand image f)) (expand (λ i. expand image (value i)) h.uses)
    same t = ap (λ n. n % suc q) (parts t) ∙ Same-expand decm decn q image (e ++ scale q f) (expand value h.uses) h.adds_up t ∙ expand-expand decn q value image h.uses t
