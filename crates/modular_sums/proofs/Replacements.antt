-- Two independent replacements in a monomial made of both.
use Rattle.std.proofs.Common.{◌≡◌, ℕ, suc, ◌+◌, ◌*◌, ◌%◌, List, [], ◌∷◌, arith, refl, sym, ◌∙◌, ap, inl, inr, ◌⊎◌}
use mathlib.Core.List.{◌++◌}
use mathlib.Core.Path.{ap₂}
use Rattle.modular_sums.specs.Residues.{IsCongruent}
use Rattle.modular_sums.specs.Sums.{coef, scale, Same, expand, moved}
use Rattle.modular_sums.proofs.Residues.{congruent_drop}
use Rattle.modular_sums.proofs.Sums.{expand-moved, choose-mul, coef-append, coef-scale, coef-expand_append, coef-expand_scale}
use Rattle.modular_sums.specs.Lists.{choose}

-- the sum of the coefficients times f
abbrev pub sum_over : {X : Type 0} → List (ℕ × X) → (X → ℕ) → ℕ
sum_over [] f = 0
sum_over (x ∷ l) f = x.0 * f x.1 + sum_over l f

pub sum_over-add : {X : Type 0} (l : List (ℕ × X)) (f g : X → ℕ) → sum_over l (λ x. f x + g x) ≡ sum_over l f + sum_over l g
sum_over-add [] f g = omega arith
sum_over-add (x ∷ l) f g = omega (arith, sum_over-add l f g)

pub sum_over-zero : {X : Type 0} (l : List (ℕ × X)) → sum_over l (λ x. 0) ≡ 0
sum_over-zero [] = refl
sum_over-zero (x ∷ l) = omega (arith, sum_over-zero l)

pub sum_over-mul : {X : Type 0} (c : ℕ) (l : List (ℕ × X)) (f : X → ℕ) → sum_over l (λ x. c * f x) ≡ c * sum_over l f
sum_over-mul c [] f = omega arith
sum_over-mul c (x ∷ l) f = omega (arith, sum_over-mul c l f)

-- the order of two sums is free
pub sum_over_swap : {X Y : Type 0} (k : List (ℕ × X)) (l : List (ℕ × Y)) (f : X → Y → ℕ)
    → sum_over k (λ x. sum_over l (λ y. f x y)) ≡ sum_over l (λ y. sum_over k (λ x. f x y))
sum_over_swap [] l f = sym (sum_over-zero l)
sum_over_swap (x ∷ k) l f =
    ap (λ n. x.0 * sum_over l (λ y. f x.1 y) + n) (sum_over_swap k l f)
    ∙ ap (λ n. n + sum_over l (λ y. sum_over k (λ z. f z y))) (sym (sum_over-mul x.0 l (f x.1)))
    ∙ sym (sum_over-add l (λ y. x.0 * f x.1 y) (λ y. sum_over k (λ z. f z y)))

pub sum_over_ext : {X : Type 0} (l : List (ℕ × X)) (f g : X → ℕ) → ((x : X) → f x ≡ g x) → sum_over l f ≡ sum_over l g
sum_over_ext [] f g h = refl
sum_over_ext (x ∷ l) f g h = rw (h x.1, sum_over_ext l f g h)

module _ {M : Type 0} (dec : Discrete M) where
  pub coef-moved : {X : Type 0} (f : X → M) (e : List (ℕ × X)) (t : M) → coef dec (moved f e) t ≡ sum_over e (λ x. choose {B = ℕ} (dec (f x) t) 1 0)
  unfolding coef
  coef-moved f [] t = refl
  coef-moved f (x ∷ e) t =
      let h : choose (dec (f x.1) t) (x.0 * 1) 0 ≡ x.0 * choose {B = ℕ} (dec (f x.1) t) 1 0 = choose-mul (dec (f x.1) t) x.0 1 in
      let o : x.0 * 1 ≡ x.0 = omega arith in
      rw (coef-moved f e t, ← h, o)

  module _ {I : Type 0} (value : I → List (ℕ × M)) where
    pub coef-expand_moved : {X : Type 0} (f : X → I) (l : List (ℕ × X)) (t : M) → coef dec (expand value (moved f l)) t ≡ sum_over l (λ x. coef dec (value (f x)) t)
    unfolding expand coef
    coef-expand_moved f [] t = refl
    coef-expand_moved f (x ∷ l) t = rw (coef-append dec (scale x.0 (value (f x.1))) (expand value (moved f l)) t, coef-scale dec x.0 (value (f x.1)) t, coef-expand_moved f l t)

    module _ {X Y : Type 0} (q : ℕ) (both : X → Y → M) (a : X) (g : List (ℕ × X)) (b : Y) (h : List (ℕ × Y))
        (by_first : Y → I) (by_second : X → I)
        (first_is : (y : Y) → value (by_first y) ≡ moved (λ x. both x y) ((1, a) ∷ g))
        (second_is : (x : X) → value (by_second x) ≡ moved (both x) ((1, b) ∷ h)) where
      abbrev pub pair_uses : List (ℕ × I)
      pair_uses = moved by_second g ++ scale q (moved by_first h)

      first_coef : (y : Y) (t : M) → coef dec (value (by_first y)) t ≡ sum_over ((1, a) ∷ g) (λ x. choose {B = ℕ} (dec (both x y) t) 1 0)
      first_coef y t = rw (first_is y, coef-moved (λ x. both x y) ((1, a) ∷ g) t)

      second_coef : (x : X) (t : M) → coef dec (value (by_second x)) t ≡ sum_over ((1, b) ∷ h) (λ y. choose {B = ℕ} (dec (both x y) t) 1 0)
      second_coef x t = rw (second_is x, coef-moved (both x) ((1, b) ∷ h) t)

      -- all products, summed either way
      balance : (t : M) → coef dec (value (by_second a)) t + sum_over g (λ x. coef dec (value (by_second x)) t)
          ≡ coef dec (value (by_first b)) t + sum_over h (λ y. coef dec (value (by_first y)) t)
      balance t =
          let s : sum_over ((1, a) ∷ g) (λ x. sum_over ((1, b) ∷ h) (λ y. choose {B = ℕ} (dec (both x y) t) 1 0)) ≡ sum_over ((1, b) ∷ h) (λ y. sum_over ((1, a) ∷ g) (λ x. choose {B = ℕ} (dec (both x y) t) 1 0))
          = sum_over_swap ((1, a) ∷ g) ((1, b) ∷ h) (λ x y. choose {B = ℕ} (dec (both x y) t) 1 0) in
          let l : sum_over ((1, a) ∷ g) (λ x. coef dec (value (by_second x)) t) ≡ sum_over ((1, a) ∷ g) (λ x. sum_over ((1, b) ∷ h) (λ y. choose {B = ℕ} (dec (both x y) t) 1 0))
          = sum_over_ext ((1, a) ∷ g) (λ x. coef dec (value (by_second x)) t) (λ x. sum_over ((1, b) ∷ h) (λ y. choose {B = ℕ} (dec (both x y) t) 1 0)) (λ x. second_coef x t) in
          let r : sum_over ((1, b) ∷ h) (λ y. coef dec (value (by_first y)) t) ≡ sum_over ((1, b) ∷ h) (λ y. sum_over ((1, a) ∷ g) (λ x. choose {B = ℕ} (dec (both x y) t) 1 0))
          = sum_over_ext ((1, b) ∷ h) (λ y. coef dec (value (by_first y)) t) (λ y. sum_over ((1, a) ∷ g) (λ x. choose {B = ℕ} (dec (both x y) t) 1 0)) (λ y. first_coef y t) in
          let e : sum_over ((1, a) ∷ g) (λ x. coef dec (value (by_second x)) t) ≡ sum_over ((1, b) ∷ h) (λ y. coef dec (value (by_first y)) t) = l ∙ s ∙ sym r in
          one_times _ _ _ _ e
        where
          one_times : (u v w z : ℕ) → 1 * u + v ≡ 1 * w + z → u + v ≡ w + z
          one_times u v w z e = omega arith

      pub pair_adds_up : Same dec q (value (by_first b) ++ scale q (value (by_second a))) (expand value pair_uses)
      pair_adds_up t =
          rw (
            coef-append dec (value (by_first b)) (scale q (value (by_second a))) t,
            coef-scale dec q (value (by_second a)) t,
            coef-expand_append dec value (moved by_second g) (scale q (moved by_first h)) t,
            coef-expand_scale dec value q (moved by_first h) t,
            coef-expand_moved by_second g t,
            coef-expand_moved by_first h t,
          )
          (settle _ _ _ _ (balance t))
        where
          settle : (u v w z : ℕ) → u + v ≡ w + z → IsCongruent q (w + q * u) (v + q * z)
          settle u v w z e =
              let k : q * (u + v) ≡ q * (w + z) = ap (λ n. q * n) e in
              let s : w + q * u + (z + q * z) ≡ v + q * z + (u + q * u) = omega arith in
              sym (congruent_drop q (w + q * u) z) ∙ ap (λ n. n % suc q) s ∙ congruent_drop q (v + q * z) u

pub independent : {M X Y : Type 0} (dec : Discrete M) (q : ℕ) (both : X → Y → M) (a : X) (g : List (ℕ × X)) (b : Y) (h : List (ℕ × Y))
    → Same dec q (moved (λ x. both x b) ((1, a) ∷ g) ++ scale q (moved (both a) ((1, b) ∷ h)))
    (expand (λ x. moved (both x) ((1, b) ∷ h)) g ++ scale q (expand (λ y. moved (λ x. both x y) ((1, a) ∷ g)) h))
independent {M} {X} {Y} dec q both a g b h t =
    pair_adds_up dec value q both a g b h inr inl (λ y. refl) (λ x. refl) t
    ∙ ap (λ n. n % suc q) (coef-expand_append dec value (moved inl g) (scale q (moved inr h)) t
    ∙ ap₂ (λ m n. m + n) (ap (λ e. coef dec e t) (expand-moved (λ x. value (inl x)) value inl (λ x. refl) g))
    (coef-expand_scale dec value q (moved inr h) t ∙ ap (λ e. q * coef dec e t) (expand-moved (λ y. value (inr y)) value inr (λ y. refl) h) ∙ sym (coef-scale dec q (expand (λ y. value (inr y)) h) t))
    ∙ sym (coef-append dec (expand (λ x. value (inl x)) g) (scale q (expand (λ y. value (inr y)) h)) t))
  where
    value : X ⊎ Y → List (ℕ × M)
    value (inl x) = moved (both x) ((1, b) ∷ h)
    value (inr y) = moved (λ x. both x y) ((1, a) ∷ g)
