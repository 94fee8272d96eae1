-- Falling sums with the same coefficients are one.
use Rattle.std.proofs.Common.{◌≡◌, ℕ, suc, ◌+◌, ◌-◌, ◌<◌, ◌%◌, List, [], ◌∷◌, refl, ap, sym, ◌∙◌, subst, arith, ◌⊎◌, inl, inr}
use mathlib.Core.Path.{ap₂}
use Rattle.std.proofs.Math.Nat.{mod-eq_of_lt}
use Rattle.std.specs.declared.cmp.Ordering.{Ordering}
use Rattle.std.specs.declared.cmp.Ordering.TheVariants.{Less}
use Rattle.modular_sums.specs.Residues.{IsCongruent}
use Rattle.modular_sums.specs.Sums.{coef, Same, AllTerms}
use Rattle.modular_sums.proofs.Residues.{congruent_cancel}
use Rattle.modular_sums.proofs.Coefficients.{coef_absent, coef_first, coef_nothing}
use Rattle.modular_sums.specs.Falling.{IsAbove, Falls, IsFalling, IsStrict}
use Rattle.modular_sums.specs.FallingLaws.{FallingSums}
use Rattle.modular_sums.specs.Lists.{choose}

-- a residue that is alike 0 is 0
pub residue_zero : (p a : ℕ) → 0 < p → a < p → 0 < a → IsCongruent (p - 1) a 0 → ⊥
residue_zero p a h l n e =
    let modulus : suc (p - 1) ≡ p = omega arith in
    let same : a % p ≡ 0 % p = subst (λ m. a % m ≡ 0 % m) modulus e in
    let left : a % p ≡ a = mod-eq_of_lt l in
    let right : 0 % p ≡ 0 = mod-eq_of_lt h in
    omega (arith, same, left, right)

residue_same : (p a b : ℕ) → 0 < p → a < p → b < p → IsCongruent (p - 1) a b → a ≡ b
residue_same p a b h l m e =
    let modulus : suc (p - 1) ≡ p = omega arith in
    let same : a % p ≡ b % p = subst (λ k. a % k ≡ b % k) modulus e in
    sym (mod-eq_of_lt l) ∙ same ∙ mod-eq_of_lt m

module _ {M : Type 0} (compare : M → M → Ordering) (dec : Discrete M) (strict : IsStrict compare) where
  -- all monomials behind the first are less
  pub all_less : (m : M) (l : List (ℕ × M)) → IsAbove compare m l → Falls compare l → AllTerms l (λ t. compare t m ≡ Less)
  all_less m [] a f = tt
  all_less m (x ∷ l) a f = (a, lower l (all_less x.1 l f.0 f.1))
    where
      lower : (k : List (ℕ × M)) → AllTerms k (λ t. compare t x.1 ≡ Less) → AllTerms k (λ t. compare t m ≡ Less)
      lower [] h = tt
      lower (y ∷ k) h = (strict.transitive y.1 x.1 m h.0 a, lower k h.1)

  pub not_there : (m : M) (l : List (ℕ × M)) → AllTerms l (λ t. compare t m ≡ Less) → AllTerms l (λ t. t ≡ m → ⊥)
  not_there m [] h = tt
  not_there m (x ∷ l) h = (λ e. strict.turned m (subst (λ t. compare t m ≡ Less) e h.0), not_there m l h.1)

  -- the first monomial doesn't stand again
  pub coef_below : (m : M) (l : List (ℕ × M)) → IsAbove compare m l → Falls compare l → coef dec l m ≡ 0
  coef_below m l a f = coef_absent dec l m (not_there m l (all_less m l a f))

  -- a monomial stands in a sum whose monomials are less than y, and so is less, or doesn't
  pub stands : (t y : M) (l : List (ℕ × M)) → AllTerms l (λ u. compare u y ≡ Less) → AllTerms l (λ u. u ≡ t → ⊥) ⊎ (compare t y ≡ Less)
  stands t y [] h = inl tt
  stands t y (x ∷ l) h = by (dec x.1 t) (stands t y l h.1)
    where
      by : Dec (x.1 ≡ t) → AllTerms l (λ u. u ≡ t → ⊥) ⊎ (compare t y ≡ Less) → AllTerms (x ∷ l) (λ u. u ≡ t → ⊥) ⊎ (compare t y ≡ Less)
      by (yes e) r = inr (subst (λ u. compare u y ≡ Less) e h.0)
      by (no f) (inl g) = inl (f, g)
      by (no f) (inr g) = inr g

  module _ (p : ℕ) (positive : 0 < p) where
    -- a first monomial that isn't that of the other sum is less than it
    lesser : (x y : ℕ × M) (k l : List (ℕ × M)) → IsFalling compare p (x ∷ k) → IsFalling compare p (y ∷ l) → Same dec (p - 1) (x ∷ k) (y ∷ l) → (y.1 ≡ x.1 → ⊥) → compare x.1 y.1 ≡ Less
    unfolding coef
    lesser x y k l f g s apart = by (stands x.1 y.1 l (all_less y.1 l g.falls.0 g.falls.1))
      where
        by : AllTerms l (λ u. u ≡ x.1 → ⊥) ⊎ (compare x.1 y.1 ≡ Less) → compare x.1 y.1 ≡ Less
        by (inr h) = h
        by (inl h) =
            let left : coef dec (x ∷ k) x.1 ≡ x.0 = coef_first dec x.0 x.1 k (coef_below x.1 k f.falls.0 f.falls.1) in
            let right : coef dec (y ∷ l) x.1 ≡ 0 = coef_absent dec (y ∷ l) x.1 (apart, h) in
            let same : IsCongruent (p - 1) x.0 0 = ap (λ n. n % suc (p - 1)) (sym left) ∙ s x.1 ∙ ap (λ n. n % suc (p - 1)) right in
            absurd (residue_zero p x.0 positive f.residues.1 f.residues.0 same)

    nothing_else : (x : ℕ × M) (k : List (ℕ × M)) → IsFalling compare p (x ∷ k) → Same dec (p - 1) (x ∷ k) [] → ⊥
    nothing_else x k f s =
        let left : coef dec (x ∷ k) x.1 ≡ x.0 = coef_first dec x.0 x.1 k (coef_below x.1 k f.falls.0 f.falls.1) in
        residue_zero p x.0 positive f.residues.1 f.residues.0 (ap (λ n. n % suc (p - 1)) (sym left) ∙ s x.1 ∙ ap (λ n. n % suc (p - 1)) (coef_nothing dec x.1))

    rest : (x : ℕ × M) (k : List (ℕ × M)) → IsFalling compare p (x ∷ k) → IsFalling compare p k
    rest x k f = record { residues = f.residues.2; falls = f.falls.1 }

    same_first : (x y : ℕ × M) (k l : List (ℕ × M)) → IsFalling compare p (x ∷ k) → IsFalling compare p (y ∷ l) → Same dec (p - 1) (x ∷ k) (y ∷ l) → x.1 ≡ y.1
    same_first x y k l f g s = by (dec y.1 x.1)
      where
        by : Dec (y.1 ≡ x.1) → x.1 ≡ y.1
        by (yes e) = sym e
        by (no apart) = absurd (strict.turned x.1 (strict.transitive x.1 y.1 x.1 (lesser x y k l f g s apart) (lesser y x l k g f (λ t. sym (s t)) (λ e. apart (sym e)))))

    same_number : (x y : ℕ × M) (k l : List (ℕ × M)) → IsFalling compare p (x ∷ k) → IsFalling compare p (y ∷ l) → Same dec (p - 1) (x ∷ k) (y ∷ l) → x.1 ≡ y.1 → x.0 ≡ y.0
    same_number x y k l f g s e =
        let left : coef dec (x ∷ k) x.1 ≡ x.0 = coef_first dec x.0 x.1 k (coef_below x.1 k f.falls.0 f.falls.1) in
        let right : coef dec (y ∷ l) y.1 ≡ y.0 = coef_first dec y.0 y.1 l (coef_below y.1 l g.falls.0 g.falls.1) in
        residue_same p x.0 y.0 positive f.residues.1 g.residues.1 (ap (λ n. n % suc (p - 1)) (sym left) ∙ s x.1 ∙ ap (λ t. coef dec (y ∷ l) t % suc (p - 1)) e ∙ ap (λ n. n % suc (p - 1)) right)

    same_rest : (x y : ℕ × M) (k l : List (ℕ × M)) → x.1 ≡ y.1 → x.0 ≡ y.0 → Same dec (p - 1) (x ∷ k) (y ∷ l) → Same dec (p - 1) k l
    unfolding coef
    same_rest x y k l e n s t =
        let first : choose (dec x.1 t) x.0 0 ≡ choose (dec y.1 t) y.0 0 = ap₂ (λ m c. choose (dec m t) c 0) e n in
        let left : coef dec (x ∷ k) t ≡ coef dec k t + choose (dec x.1 t) x.0 0 = omega arith in
        let right : coef dec (y ∷ l) t ≡ coef dec l t + choose (dec x.1 t) x.0 0 = omega (arith, first) in
        congruent_cancel (p - 1) (coef dec k t) (coef dec l t) (choose (dec x.1 t) x.0 0) (ap (λ m. m % suc (p - 1)) (sym left) ∙ s t ∙ ap (λ m. m % suc (p - 1)) right)

    pub one_sum : (k l : List (ℕ × M)) → IsFalling compare p k → IsFalling compare p l → Same dec (p - 1) k l → k ≡ l
    one_sum [] [] f g s = refl
    one_sum [] (y ∷ l) f g s = absurd (nothing_else y l g (λ t. sym (s t)))
    one_sum (x ∷ k) [] f g s = absurd (nothing_else x k f s)
    one_sum (x ∷ k) (y ∷ l) f g s =
        let e = same_first x y k l f g s in
        let n = same_number x y k l f g s e in
        ap₂ (λ z m. z ∷ m) (ap₂ (λ a b. (a, b)) n e) (one_sum k l (rest x k f) (rest y l g) (same_rest x y k l e n s))

pub falling_law : (M : Type 0) → FallingSums M
falling_law M compare dec p k l positive strict f g s = one_sum compare dec strict p positive k l f g s
