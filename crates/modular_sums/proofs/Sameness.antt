-- Two sums are the same where they have one coefficient at each monomial that stands in them.
use Rattle.std.proofs.Common.{◌≡◌, ℕ, suc, ◌%◌, ◌+◌, List, [], ◌∷◌, Bool, true, false, cond, refl, ap, sym, ◌∙◌, inl, inr, ◌⊎◌}
use mathlib.Core.Path.{ap₂}
use mathlib.Core.List.{◌++◌}
use native.Mathlib.Decide.{ℕ_discrete}
use Rattle.modular_sums.specs.Lists.{Mem, has_by, choose}
use Rattle.modular_sums.specs.Residues.{IsCongruent}
use Rattle.modular_sums.specs.Sums.{coef, Same}
use Rattle.modular_sums.proofs.Lists.{both_true, has_by_mem, mem_has_by, mem_left, mem_right}

-- the monomials of a sum
abbrev pub monomials : {M : Type 0} → List (ℕ × M) → List M
monomials [] = []
monomials (x ∷ e) = x.1 ∷ monomials e

abbrev is_yes : {A : Type 0} → Dec A → Bool
is_yes d = choose d true false

-- e and f have one coefficient at each monomial of the list
abbrev pub agree_at : {M : Type 0} → Discrete M → ℕ → List (ℕ × M) → List (ℕ × M) → List M → Bool
agree_at dec q e f [] = true
agree_at dec q e f (t ∷ l) = cond (is_yes (ℕ_discrete (coef dec e t % suc q) (coef dec f t % suc q))) (agree_at dec q e f l) false

yes_of : {A : Type 0} (d : Dec A) → is_yes d ≡ true → A
yes_of (yes a) e = a
yes_of (no f) e = absurd (cc e)

module _ {M : Type 0} (dec : Discrete M) where
  -- a monomial that doesn't stand in the sum
  not_there : (e : List (ℕ × M)) (t : M) → (Mem t (monomials e) → ⊥) → coef dec e t ≡ 0
  unfolding coef
  not_there [] t h = refl
  not_there (x ∷ e) t h = ap₂ (λ m n. m + n) (missed (dec x.1 t)) (not_there e t (λ m. h (inr m)))
    where
      missed : (d : Dec (x.1 ≡ t)) → choose d x.0 0 ≡ 0
      missed (yes s) = absurd (h (inl (sym s)))
      missed (no _) = refl

  agreed : (q : ℕ) (e f : List (ℕ × M)) (l : List M) → agree_at dec q e f l ≡ true → (t : M) → Mem t l → IsCongruent q (coef dec e t) (coef dec f t)
  agreed q e f [] h t m = absurd m
  agreed q e f (u ∷ l) h t m = go (both_true (is_yes (ℕ_discrete (coef dec e u % suc q) (coef dec f u % suc q))) (agree_at dec q e f l) h) (λ g n. agreed q e f l g t n) m
    where
      go : (is_yes (ℕ_discrete (coef dec e u % suc q) (coef dec f u % suc q)) ≡ true) × (agree_at dec q e f l ≡ true)
          → (agree_at dec q e f l ≡ true → Mem t l → IsCongruent q (coef dec e t) (coef dec f t)) → (t ≡ u) ⊎ Mem t l → IsCongruent q (coef dec e t) (coef dec f t)
      go b ih (inl s) = ap (λ v. coef dec e v % suc q) s ∙ yes_of (ℕ_discrete (coef dec e u % suc q) (coef dec f u % suc q)) b.0 ∙ ap (λ v. coef dec f v % suc q) (sym s)
      go b ih (inr n) = ih b.1 n

  pub same_if_agree : (q : ℕ) (e f : List (ℕ × M)) → agree_at dec q e f (monomials e ++ monomials f) ≡ true → Same dec q e f
  same_if_agree q e f h t = go (has_by dec (monomials e ++ monomials f) t) refl
    where
      go : (b : Bool) → has_by dec (monomials e ++ monomials f) t ≡ b → IsCongruent q (coef dec e t) (coef dec f t)
      go true k = agreed q e f (monomials e ++ monomials f) h t (has_by_mem dec (monomials e ++ monomials f) t k)
      go false k = ap (λ n. n % suc q) (none e (λ m. mem_left t (monomials e) (monomials f) m) ∙ sym (none f (λ m. mem_right t (monomials e) (monomials f) m)))
        where
          none : (x : List (ℕ × M)) → (Mem t (monomials x) → Mem t (monomials e ++ monomials f)) → coef dec x t ≡ 0
          none x into = not_there x t (λ m. let u = mem_has_by dec (monomials e ++ monomials f) t (into m) in absurd (cc (u, k)))
