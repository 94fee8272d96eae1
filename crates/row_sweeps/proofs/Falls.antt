-- Falling sums over positions: a term behind the others, and that nothing of them is 0.
use Rattle.std.proofs.Common.{◌≡◌, ◌≢◌, ℕ, suc, ◌<◌, List, [], ◌∷◌, arith, refl, sym, ◌∙◌}
use mathlib.Core.List.{◌++◌}
use native.Mathlib.Decide.{ℕ_discrete}
use Rattle.std.specs.declared.cmp.Ordering.TheVariants.{Less}
use Rattle.std.specs.Ordering.{nat_cmp}
use Rattle.std.specs.Cmp.{nat_cmp_is}
use Rattle.std.proofs.lemmas.Cmp.{ranked}
use Rattle.std.proofs.Math.Nat.{zero-mod, mod-eq_of_lt}
use Rattle.modular_sums.specs.Residues.{IsCongruent}
use Rattle.modular_sums.specs.Sums.{coef, AllTerms}
use Rattle.modular_sums.proofs.Coefficients.{coef_absent}
use Rattle.modular_sums.proofs.Images.{AllTerms-imp}
use Rattle.modular_sums.specs.Falling.{IsAbove, Falls, AreNonzeroResidues, IsFalling}
use Rattle.modular_sums.specs.PositionChains.{HasPosition, HasNoZeroPositions}
use Rattle.modular_sums.proofs.Choices.{choose-yes, choose-no}

abbrev Sum : Type 0
Sum = List (ℕ × ℕ)

less_cmp : (x y : ℕ) → x < y → nat_cmp x y ≡ Less
less_cmp x y h = sym (nat_cmp_is x y Less h)

less_of_cmp : (x y : ℕ) → nat_cmp x y ≡ Less → x < y
less_of_cmp x y h = ranked x y Less (sym h)

above_more : (x c at : ℕ) (l : Sum) → IsAbove nat_cmp x l → at < x → IsAbove nat_cmp x (l ++ ((c, at) ∷ []))
above_more x c at [] h lt = less_cmp at x lt
above_more x c at (y ∷ l) h lt = h

falls_more : (c at : ℕ) (l : Sum) → Falls nat_cmp l → AllTerms l (λ t. at < t) → Falls nat_cmp (l ++ ((c, at) ∷ []))
falls_more c at [] h a = (tt, tt)
falls_more c at (x ∷ l) h a = (above_more x.1 c at l h.0 a.0, falls_more c at l h.1 a.1)

residues_more : (p c at : ℕ) (l : Sum) → AreNonzeroResidues p l → 0 < c → c < p → AreNonzeroResidues p (l ++ ((c, at) ∷ []))
residues_more p c at [] h pos lt = (pos, lt, tt)
residues_more p c at (x ∷ l) h pos lt = (h.0, h.1, residues_more p c at l h.2 pos lt)

-- a term with a lower position behind the others
pub falling_more : (p c at : ℕ) (l : Sum) → IsFalling nat_cmp p l → AllTerms l (λ t. at < t) → 0 < c → c < p → IsFalling nat_cmp p (l ++ ((c, at) ∷ []))
falling_more p c at l f a pos lt = record { residues = residues_more p c at l f.residues pos lt; falls = falls_more c at l f.falls a }

-- each position is below the first
pub below_first : (x : ℕ × ℕ) (l : Sum) → Falls nat_cmp (x ∷ l) → AllTerms l (λ t. t < x.1)
below_first x [] h = tt
below_first x (y ∷ l) h =
    let lt : y.1 < x.1 = less_of_cmp y.1 x.1 h.0 in
    (lt, AllTerms-imp (λ t. t < y.1) (λ t. t < x.1) l (λ t k. omega arith) (below_first y l h.1))

both : (P Q : ℕ → Type 0) (l : Sum) → AllTerms l P → AllTerms l Q → AllTerms l (λ t. P t × Q t)
both P Q [] h k = tt
both P Q (x ∷ l) h k = ((h.0, k.0), both P Q l h.1 k.1)

module _ (q : ℕ) where
  -- a residue other than 0 isn't alike 0
  pub not_zero : (c : ℕ) → 0 < c → c < suc q → IsCongruent q c 0 → ⊥
  not_zero c pos lt e =
      let k : c ≡ 0 = sym (mod-eq_of_lt lt) ∙ e ∙ zero-mod (suc q) in
      let n : c ≢ 0 = omega arith in
      n k

  first_coef : (x : ℕ × ℕ) (l : Sum) → AllTerms l (λ t. t < x.1) → coef ℕ_discrete (x ∷ l) x.1 ≡ x.0
  unfolding coef
  first_coef x l h =
      let a : coef ℕ_discrete l x.1 ≡ 0 = coef_absent ℕ_discrete l x.1 (AllTerms-imp (λ t. t < x.1) (λ t. t ≡ x.1 → ⊥) l (λ t k e. let n : t ≢ x.1 = omega arith in n e) h) in
      rw (choose-yes (ℕ_discrete x.1 x.1) x.0 0 refl, a) (omega arith)

  other_coef : (x : ℕ × ℕ) (l : Sum) (t : ℕ) → t < x.1 → coef ℕ_discrete (x ∷ l) t ≡ coef ℕ_discrete l t
  unfolding coef
  other_coef x l t h = let n : x.1 ≢ t = omega arith in rw (choose-no (ℕ_discrete x.1 t) x.0 0 n) (omega arith)

  -- no term of a falling sum is 0
  no_zeros : (l : Sum) → AreNonzeroResidues (suc q) l → Falls nat_cmp l → HasNoZeroPositions q l
  no_zeros [] r f = tt
  no_zeros (x ∷ l) r f =
      let b : AllTerms l (λ t. t < x.1) = below_first x l f in (
        λ z. not_zero x.0 r.0 r.1 (rw (first_coef x l b) at z),
        AllTerms-imp (λ t. (t < x.1) × HasPosition q l t) (HasPosition q (x ∷ l)) l
            (λ t h z. h.1 (rw (other_coef x l t h.0) at z))
            (both (λ t. t < x.1) (HasPosition q l) l b (no_zeros l r.2 f.1)),
      )

  pub falling_no_zeros : (l : Sum) → IsFalling nat_cmp (suc q) l → HasNoZeroPositions q l
  falling_no_zeros l f = no_zeros l f.residues f.falls
