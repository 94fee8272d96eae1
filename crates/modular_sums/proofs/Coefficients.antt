-- Coefficients of sums in which a monomial doesn't stand, or stands first.
use Rattle.std.proofs.Common.{◌≡◌, ℕ, ◌+◌, ◌*◌, List, [], ◌∷◌, refl, arith}
use Rattle.modular_sums.specs.Sums.{coef, AllTerms}
use Rattle.modular_sums.specs.Lists.{choose}
use Rattle.modular_sums.proofs.Choices.{choose-yes, choose-no}

hit_times : {A : Type 0} (d : Dec A) (c : ℕ) → choose d c 0 + 0 ≡ c * (choose {B = ℕ} d 1 0 + 0)
hit_times (yes _) c = omega arith
hit_times (no _) c = omega arith

module _ {M : Type 0} (dec : Discrete M) where
  pub coef_nothing : (t : M) → coef dec [] t ≡ 0
  unfolding coef
  coef_nothing t = refl

  pub coef_absent : (e : List (ℕ × M)) (t : M) → AllTerms e (λ x. x ≡ t → ⊥) → coef dec e t ≡ 0
  unfolding coef
  coef_absent [] t h = refl
  coef_absent (x ∷ e) t h = rw (choose-no (dec x.1 t) x.0 0 h.0, coef_absent e t h.1) (omega arith)

  pub coef_first : (c : ℕ) (t : M) (e : List (ℕ × M)) → coef dec e t ≡ 0 → coef dec ((c, t) ∷ e) t ≡ c
  unfolding coef
  coef_first c t e z = rw (choose-yes (dec t t) c 0 refl, z) (omega arith)

  pub coef_times : (c : ℕ) (t u : M) → coef dec ((c, t) ∷ []) u ≡ c * coef dec ((1, t) ∷ []) u
  unfolding coef
  coef_times c t u = hit_times (dec t u) c
