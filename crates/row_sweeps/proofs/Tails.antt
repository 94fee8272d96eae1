-- Coefficients of tails.
use Rattle.std.proofs.Common.{◌≡◌, ◌≢◌, ℕ, ◌+◌, ◌*◌, ◌<◌, ◌≤◌, List, [], ◌∷◌, arith, refl, sym, inl, inr}
use native.Mathlib.Decide.{ℕ_discrete}
use Rattle.std.proofs.Math.Nat.{mul-le-mul}
use Rattle.modular_sums.specs.Lists.{Mem, Distinct, choose}
use Rattle.modular_sums.specs.Sums.{coef}
use Rattle.modular_sums.proofs.Coefficients.{coef_absent}
use Rattle.modular_sums.proofs.Images.{AllTerms-imp}
use Rattle.modular_sums.specs.RuleTables.{positions, AreResidues, IsRuleTail}
use Rattle.modular_sums.proofs.Choices.{choose-no}

abbrev Sum : Type 0
Sum = List (ℕ × ℕ)

coef_not_there : (l : Sum) (t : ℕ) → (Mem t (positions l) → ⊥) → coef ℕ_discrete l t ≡ 0
unfolding coef
coef_not_there [] t h = refl
coef_not_there (x ∷ l) t h = rw (choose-no (ℕ_discrete x.1 t) x.0 0 (λ e. h (inl (sym e))), coef_not_there l t (λ m. h (inr m))) (omega arith)

-- where each position stands once and the numbers are residues, so are the coefficients
coef_residue : (q : ℕ) (l : Sum) (t : ℕ) → Distinct (positions l) → AreResidues q l → coef ℕ_discrete l t ≤ q
unfolding coef
coef_residue q [] t d r = omega arith
coef_residue q (x ∷ l) t d r = go (ℕ_discrete x.1 t) (coef_residue q l t d.1 r.2)
  where
    here : x.1 ≡ t → coef ℕ_discrete l t ≡ 0
    here e = rw e at (coef_not_there l x.1 d.0)

    go : (k : Dec (x.1 ≡ t)) → coef ℕ_discrete l t ≤ q → choose k x.0 0 + coef ℕ_discrete l t ≤ q
    go (yes e) ih = let z = here e in let le : x.0 ≤ q = r.1 in omega (arith, z, le)
    go (no n) ih = omega arith

module _ (q at : ℕ) (tail : Sum) (h : IsRuleTail q at tail) where
  pub tail_residue : (t : ℕ) → coef ℕ_discrete tail t ≤ q
  tail_residue t = coef_residue q tail t h.once h.residues

  -- nothing stands at the position or above
  pub tail_below : (t : ℕ) → at ≤ t → coef ℕ_discrete tail t ≡ 0
  tail_below t le = coef_absent ℕ_discrete tail t (AllTerms-imp (λ u. u < at) (λ u. u ≡ t → ⊥) tail (λ u lt e. let n : u ≢ t = omega arith in n e) h.below)

  -- a multiple by a residue is small
  pub multiple_small : (m t : ℕ) → m ≤ q → q ≤ 65536 → m * coef ℕ_discrete tail t ≤ 4294967296
  multiple_small m t le small =
      let a : m ≤ 65536 = omega arith in
      let r = tail_residue t in
      let b : coef ℕ_discrete tail t ≤ 65536 = omega (arith, r) in
      mul-le-mul a b
