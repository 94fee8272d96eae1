-- What a sum counts, where each monomial counts for a number: sums that count alike are the same.
use Rattle.std.proofs.Common.{◌≡◌, ℕ, suc, ◌+◌, ◌*◌, ◌%◌, List, [], ◌∷◌, refl, sym, ap, ◌∙◌, arith, append_assoc}
use mathlib.Core.List.{◌++◌}
use mathlib.Core.Path.{ap₂}
use Rattle.modular_sums.specs.Sums.{coef, scale, Same, expand, moved, AllTerms}
use Rattle.modular_sums.proofs.Sums.{choose-mul, AllTerms-append, AllTerms-scale, scale-scale}
use Rattle.modular_sums.proofs.Replacements.{sum_over}
use Rattle.modular_sums.proofs.Images.{sum_over-append, sum_over-scale, same_sum}
use Rattle.modular_sums.specs.Lists.{choose}

-- two sums count alike
abbrev pub CountAlike : {M : Type 0} → List (ℕ × M) → List (ℕ × M) → Type 0
CountAlike {M} d e = (h : M → ℕ) → sum_over d h ≡ sum_over e h

-- a coefficient is a count
pub coef-count : {M : Type 0} (dec : Discrete M) (e : List (ℕ × M)) (t : M) → coef dec e t ≡ sum_over e (λ x. choose {B = ℕ} (dec x t) 1 0)
unfolding coef
coef-count dec [] t = refl
coef-count dec (x ∷ e) t =
    let o : x.0 * 1 ≡ x.0 = omega arith in
    ap₂ (λ m n. m + n) (sym (ap (λ c. choose (dec x.1 t) c 0) o) ∙ choose-mul (dec x.1 t) x.0 1) (coef-count dec e t)

pub same-count : {M : Type 0} (dec : Discrete M) (q : ℕ) (d e : List (ℕ × M)) → CountAlike d e → Same dec q d e
same-count dec q d e h t = ap (λ n. n % suc q) (coef-count dec d t ∙ h (λ x. choose {B = ℕ} (dec x t) 1 0) ∙ sym (coef-count dec e t))

-- ---- counts of sums that are made of others

pub count-one : {M : Type 0} (x : M) (h : M → ℕ) → sum_over ((1, x) ∷ []) h ≡ h x
count-one x h = omega arith

pub count-moved : {A B : Type 0} (f : A → B) (e : List (ℕ × A)) (h : B → ℕ) → sum_over (moved f e) h ≡ sum_over e (λ x. h (f x))
count-moved f [] h = refl
count-moved f (x ∷ e) h = ap (λ n. x.0 * h (f x.1) + n) (count-moved f e h)

pub count-expand : {I M : Type 0} (value : I → List (ℕ × M)) (l : List (ℕ × I)) (h : M → ℕ) → sum_over (expand value l) h ≡ sum_over l (λ i. sum_over (value i) h)
unfolding expand
count-expand value [] h = refl
count-expand value (x ∷ l) h = sum_over-append (scale x.0 (value x.1)) (expand value l) h ∙ ap₂ (λ m n. m + n) (sum_over-scale x.0 (value x.1) h) (count-expand value l h)

-- functions that agree at each monomial of a sum
pub count_eq : {M : Type 0} (P : M → Type 0) (e : List (ℕ × M)) (f g : M → ℕ) → AllTerms e P → ((x : M) → P x → f x ≡ g x) → sum_over e f ≡ sum_over e g
count_eq P [] f g a h = refl
count_eq P (x ∷ e) f g a h = ap₂ (λ m n. x.0 * m + n) (h x.1 a.0) (count_eq P e f g a.1 h)

-- ---- what holds of each monomial

pub AllTerms-expand : {I M : Type 0} (value : I → List (ℕ × M)) (O : I → Type 0) (P : M → Type 0) (l : List (ℕ × I)) → AllTerms l O → ((i : I) → O i → AllTerms (value i) P) → AllTerms (expand value l) P
unfolding expand
AllTerms-expand value O P [] a h = tt
AllTerms-expand value O P (x ∷ l) a h = AllTerms-append (scale x.0 (value x.1)) (expand value l) P (AllTerms-scale x.0 (value x.1) P (h x.1 a.0)) (AllTerms-expand value O P l a.1 h)

-- ---- sums of values

pub scale-append : {M : Type 0} (c : ℕ) (e f : List (ℕ × M)) → scale c (e ++ f) ≡ scale c e ++ scale c f
unfolding scale
scale-append c [] f = refl
scale-append c (x ∷ e) f = ap (λ l. (c * x.0, x.1) ∷ l) (scale-append c e f)

pub expand-append : {I M : Type 0} (value : I → List (ℕ × M)) (k l : List (ℕ × I)) → expand value (k ++ l) ≡ expand value k ++ expand value l
unfolding expand
expand-append value [] l = refl
expand-append value (x ∷ k) l = ap (λ m. scale x.0 (value x.1) ++ m) (expand-append value k l) ∙ sym (append_assoc (scale x.0 (value x.1)) (expand value k) (expand value l))

pub expand-scale : {I M : Type 0} (value : I → List (ℕ × M)) (c : ℕ) (l : List (ℕ × I)) → expand value (scale c l) ≡ scale c (expand value l)
unfolding expand scale
expand-scale value c [] = refl
expand-scale value c (x ∷ l) = ap₂ (λ a b. a ++ b) (scale-scale c x.0 (value x.1)) (expand-scale value c l) ∙ sym (scale-append c (scale x.0 (value x.1)) (expand value l))

-- what is put for each monomial depends on the coefficients alone
pub same-expand : {I M : Type 0} (deci : Discrete I) (decm : Discrete M) (q : ℕ) (value : I → List (ℕ × M)) (k l : List (ℕ × I)) → Same deci q k l → Same decm q (expand value k) (expand value l)
same-expand {I} deci decm q value k l h t =
    ap (λ n. n % suc q) (coef-count decm (expand value k) t ∙ count-expand value k (λ x. choose {B = ℕ} (decm x t) 1 0))
    ∙ same_sum I deci q k l (λ i. sum_over (value i) (λ x. choose {B = ℕ} (decm x t) 1 0)) h
    ∙ sym (ap (λ n. n % suc q) (coef-count decm (expand value l) t ∙ count-expand value l (λ x. choose {B = ℕ} (decm x t) 1 0)))
