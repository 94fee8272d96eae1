-- What products of sums, and choices among sums, count.
use Rattle.std.proofs.Common.{◌≡◌, ℕ, ◌+◌, ◌*◌, List, [], ◌∷◌, map, refl, sym, ◌∙◌, arith}
use mathlib.Core.Path.{ap₂}
use Rattle.modular_sums.specs.Sums.{expand, AllTerms}
use Rattle.modular_sums.proofs.Sums.{AllTerms-append}
use Rattle.modular_sums.proofs.Replacements.{sum_over, sum_over_ext, sum_over_swap}
use Rattle.modular_sums.proofs.Images.{sum_over-append}
use Rattle.modular_sums.proofs.Counted.{count-one, count-expand}
use Rattle.operad_morphisms.specs.Compositions.{product, choices}

count-multiples : {B C : Type 0} (c : ℕ) (f : B → C) (e : List (ℕ × B)) (h : C → ℕ) → sum_over (map (λ y. (c * y.0, f y.1)) e) h ≡ c * sum_over e (λ y. h (f y))
count-multiples c f [] h = omega arith
count-multiples c f (y ∷ e) h = omega (arith, count-multiples c f e h)

pub count-product : {A B C : Type 0} (f : A → B → C) (d : List (ℕ × A)) (e : List (ℕ × B)) (h : C → ℕ) → sum_over (product f d e) h ≡ sum_over d (λ x. sum_over e (λ y. h (f x y)))
count-product f [] e h = refl
count-product f (x ∷ d) e h =
    sum_over-append (map (λ y. (x.0 * y.0, f x.1 y.1)) e) (product f d e) h
    ∙ ap₂ (λ m n. m + n) (count-multiples x.0 (f x.1) e h) (count-product f d e h)

AllTerms-multiples : {B C : Type 0} (c : ℕ) (f : B → C) (e : List (ℕ × B)) (Q : B → Type 0) (P : C → Type 0) → AllTerms e Q → ((y : B) → Q y → P (f y)) → AllTerms (map (λ y. (c * y.0, f y.1)) e) P
AllTerms-multiples c f [] Q P a h = tt
AllTerms-multiples c f (y ∷ e) Q P a h = (h y.1 a.0, AllTerms-multiples c f e Q P a.1 h)

pub AllTerms-product : {A B C : Type 0} (f : A → B → C) (O : A → Type 0) (Q : B → Type 0) (P : C → Type 0) (d : List (ℕ × A)) (e : List (ℕ × B))
    → AllTerms d O → AllTerms e Q → ((x : A) (y : B) → O x → Q y → P (f x y)) → AllTerms (product f d e) P
AllTerms-product f O Q P [] e a b h = tt
AllTerms-product f O Q P (x ∷ d) e a b h =
    AllTerms-append (map (λ y. (x.0 * y.0, f x.1 y.1)) e) (product f d e) P (AllTerms-multiples x.0 (f x.1) e Q P b (λ y. h x.1 y a.0)) (AllTerms-product f O Q P d e a.1 b h)

-- ---- choices

-- choices among sums of sums: first a term of each, then a term of each of these
pub count-choices : {A B : Type 0} (value : A → List (ℕ × B)) (es : List (List (ℕ × A))) (h : List B → ℕ)
    → sum_over (choices (map (expand value) es)) h ≡ sum_over (choices es) (λ xs. sum_over (choices (map value xs)) h)
count-choices value [] h = sym (count-one [] (λ xs. sum_over (choices (map value xs)) h))
count-choices {A} {B} value (e ∷ es) h =
    count-product (λ x xs. x ∷ xs) (expand value e) (choices (map (expand value) es)) h
    ∙ count-expand value e (λ b. sum_over (choices (map (expand value) es)) (λ bs. h (b ∷ bs)))
    ∙ sum_over_ext e (λ x. sum_over (value x) (λ b. sum_over (choices (map (expand value) es)) (λ bs. h (b ∷ bs)))) (λ x. sum_over (choices es) (λ xs. sum_over (choices (map value (x ∷ xs))) h)) (each (λ k. count-choices value es k))
    ∙ sym (count-product (λ x xs. x ∷ xs) e (choices es) (λ xs. sum_over (choices (map value xs)) h))
  where
    each : ((k : List B → ℕ) → sum_over (choices (map (expand value) es)) k ≡ sum_over (choices es) (λ xs. sum_over (choices (map value xs)) k))
        → (x : A) → sum_over (value x) (λ b. sum_over (choices (map (expand value) es)) (λ bs. h (b ∷ bs))) ≡ sum_over (choices es) (λ xs. sum_over (choices (map value (x ∷ xs))) h)
    each ih x =
        sum_over_ext (value x) (λ b. sum_over (choices (map (expand value) es)) (λ bs. h (b ∷ bs))) (λ b. sum_over (choices es) (λ xs. sum_over (choices (map value xs)) (λ bs. h (b ∷ bs)))) (λ b. ih (λ bs. h (b ∷ bs)))
        ∙ sum_over_swap (value x) (choices es) (λ b xs. sum_over (choices (map value xs)) (λ bs. h (b ∷ bs)))
        ∙ sum_over_ext (choices es) (λ xs. sum_over (value x) (λ b. sum_over (choices (map value xs)) (λ bs. h (b ∷ bs)))) (λ xs. sum_over (choices (map value (x ∷ xs))) h)
        (λ xs. sym (count-product (λ b bs. b ∷ bs) (value x) (choices (map value xs)) h))
