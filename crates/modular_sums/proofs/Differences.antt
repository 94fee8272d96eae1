-- Sums that are the same, where e ++ scale q f stands for e minus f.
use Rattle.std.proofs.Common.{◌≡◌, ℕ, suc, ◌+◌, ◌*◌, ◌%◌, List, [], ◌∷◌, sym, ◌∙◌, ap, arith}
use mathlib.Core.List.{◌++◌}
use Rattle.modular_sums.specs.Residues.{IsCongruent}
use Rattle.modular_sums.specs.Sums.{coef, scale, Same}
use Rattle.modular_sums.proofs.Residues.{congruent_drop, congruent_of_gone, less_alike}
use Rattle.modular_sums.proofs.Sums.{coef-append, coef-scale, Same-cancelled}
use Rattle.modular_sums.proofs.Coefficients.{coef_nothing, coef_times}

module _ (q : ℕ) where
  -- h - (- f) is (h + l) - (l - f)
  negated : (h l f : ℕ) → IsCongruent q (h + q * (q * f)) (h + l + q * (l + q * f))
  negated h l f =
      let e : h + l + q * (l + q * f) ≡ h + q * (q * f) + (l + q * l) = omega arith in
      sym (ap (λ n. n % suc q) e ∙ congruent_drop q (h + q * (q * f)) l)

  -- c h + e - (c f + g) is c (h - f) + (e - g)
  added : (c h e f g : ℕ) → IsCongruent q (c * h + e + q * (c * f + g)) (c * (h + q * f) + (e + q * g))
  added c h e f g =
      let k : c * h + e + q * (c * f + g) ≡ c * (h + q * f) + (e + q * g) = omega arith in
      ap (λ n. n % suc q) k

  -- f - g is - (d - f) + (d - e) + (e - g)
  forms_apart : (d e f g : ℕ) → IsCongruent q (f + q * g) (q * (d + q * f) + (d + q * e) + (e + q * g))
  forms_apart d e f g =
      let a : q * (d + q * f) + (d + q * e) + (e + q * g) ≡ q * (q * f) + q * g + (d + q * d) + (e + q * e) = omega arith in
      let b : q * (q * f) + q * g + (f + q * f) ≡ f + q * g + (q * f + q * (q * f)) = omega arith in
      rw a (sym (congruent_drop q (q * (q * f) + q * g + (d + q * d)) e ∙ congruent_drop q (q * (q * f) + q * g) d
      ∙ sym (congruent_drop q (q * (q * f) + q * g) f) ∙ ap (λ n. n % suc q) b ∙ congruent_drop q (f + q * g) (q * f)))

module _ {M : Type 0} (dec : Discrete M) (q : ℕ) where
  abbrev co : List (ℕ × M) → M → ℕ
  co = coef dec

  pub same_negated : (h l f : List (ℕ × M)) → Same dec q (h ++ scale q (scale q f)) ((h ++ l) ++ scale q (l ++ scale q f))
  same_negated h l f t = rw (
    coef-append dec h (scale q (scale q f)) t,
    coef-scale dec q (scale q f) t,
    coef-scale dec q f t,
    coef-append dec (h ++ l) (scale q (l ++ scale q f)) t,
    coef-append dec h l t,
    coef-scale dec q (l ++ scale q f) t,
    coef-append dec l (scale q f) t,
    coef-scale dec q f t,
  )
      (negated q (co h t) (co l t) (co f t))

  pub same_added : (c : ℕ) (x : M) (e f g : List (ℕ × M))
      → Same dec q (((c, x) ∷ e) ++ scale q (scale c f ++ g)) (scale c (((1, x) ∷ []) ++ scale q f) ++ (e ++ scale q g))
  same_added c x e f g t = rw (
    coef-append dec (((c, x) ∷ []) ++ e) (scale q (scale c f ++ g)) t,
    coef-append dec ((c, x) ∷ []) e t,
    coef_times dec c x t,
    coef-scale dec q (scale c f ++ g) t,
    coef-append dec (scale c f) g t,
    coef-scale dec c f t,
    coef-append dec (scale c (((1, x) ∷ []) ++ scale q f)) (e ++ scale q g) t,
    coef-scale dec c (((1, x) ∷ []) ++ scale q f) t,
    coef-append dec ((1, x) ∷ []) (scale q f) t,
    coef-scale dec q f t,
    coef-append dec e (scale q g) t,
    coef-scale dec q g t,
  )
      (added q c (co ((1, x) ∷ []) t) (co e t) (co f t) (co g t))

  pub same_gone : (e : List (ℕ × M)) → Same dec q (e ++ scale q e) []
  same_gone e t = rw (coef_nothing dec t) (Same-cancelled dec q e t)

  pub same_forms_apart : (d e f g : List (ℕ × M)) → Same dec q (f ++ scale q g) ((scale q (d ++ scale q f) ++ (d ++ scale q e)) ++ (e ++ scale q g))
  same_forms_apart d e f g t = rw (
    coef-append dec f (scale q g) t,
    coef-scale dec q g t,
    coef-append dec (scale q (d ++ scale q f) ++ (d ++ scale q e)) (e ++ scale q g) t,
    coef-append dec (scale q (d ++ scale q f)) (d ++ scale q e) t,
    coef-scale dec q (d ++ scale q f) t,
    coef-append dec d (scale q f) t,
    coef-scale dec q f t,
    coef-append dec d (scale q e) t,
    coef-scale dec q e t,
    coef-append dec e (scale q g) t,
    coef-scale dec q g t,
  )
      (forms_apart q (co d t) (co e t) (co f t) (co g t))

  pub same_sums_apart : (d e f g : List (ℕ × M)) → Same dec q f g → Same dec q (d ++ scale q e) ((d ++ scale q f) ++ scale q (e ++ scale q g))
  same_sums_apart d e f g h t = rw (
    coef-append dec d (scale q e) t,
    coef-scale dec q e t,
    coef-append dec (d ++ scale q f) (scale q (e ++ scale q g)) t,
    coef-append dec d (scale q f) t,
    coef-scale dec q f t,
    coef-scale dec q (e ++ scale q g) t,
    coef-append dec e (scale q g) t,
    coef-scale dec q g t,
  )
      (less_alike q (co d t) (co e t) (co f t) (co g t) (h t))

  pub same_of_zero : (f g : List (ℕ × M)) → Same dec q (f ++ scale q g) [] → Same dec q f g
  same_of_zero f g z t = congruent_of_gone q (co f t) (co g t)
      (ap (λ c. c % suc q) (sym (coef-append dec f (scale q g) t ∙ ap (λ c. co f t + c) (coef-scale dec q g t))) ∙ z t ∙ ap (λ c. c % suc q) (coef_nothing dec t))
