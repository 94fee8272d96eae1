-- The image of a sum depends on its coefficients alone.
use Rattle.std.proofs.Common.{◌≡◌, ◌≢◌, ℕ, zero, suc, ◌+◌, ◌*◌, ◌≤◌, List, [], ◌∷◌, length, arith, refl, sym, ◌∙◌, ap}
use mathlib.Core.List.{◌++◌}
use mathlib.Core.Path.{ap₂}
use Rattle.modular_sums.specs.Residues.{IsCongruent}
use Rattle.modular_sums.specs.Sums.{coef, scale, Same, expand, moved, AllTerms}
use Rattle.modular_sums.proofs.Residues.{congruent_add, congruent_mul, congruent_gone, congruent_of_gone}
use Rattle.modular_sums.proofs.Sums.{coef-append, coef-scale}
use Rattle.modular_sums.proofs.Replacements.{sum_over, coef-moved}
use Rattle.modular_sums.specs.Lists.{choose}

abbrev keep : {X C : Type 0} → Dec C → X → List X → List X
keep (yes _) x l = l
keep (no _) x l = x ∷ l

pub sum_over-append : {X : Type 0} (k l : List (ℕ × X)) (f : X → ℕ) → sum_over (k ++ l) f ≡ sum_over k f + sum_over l f
sum_over-append [] l f = omega arith
sum_over-append (x ∷ k) l f = omega (arith, sum_over-append k l f)

pub sum_over-scale : {X : Type 0} (c : ℕ) (e : List (ℕ × X)) (f : X → ℕ) → sum_over (scale c e) f ≡ c * sum_over e f
unfolding scale
sum_over-scale c [] f = omega arith
sum_over-scale c (x ∷ e) f = omega (arith, sum_over-scale c e f)

pub moved-append : {X Y : Type 0} (f : X → Y) (k l : List (ℕ × X)) → moved f (k ++ l) ≡ moved f k ++ moved f l
moved-append f [] l = refl
moved-append f (x ∷ k) l = ap (λ m. (x.0, f x.1) ∷ m) (moved-append f k l)

pub moved-moved : {X Y Z : Type 0} (f : X → Y) (g : Y → Z) (l : List (ℕ × X)) → moved g (moved f l) ≡ moved (λ x. g (f x)) l
moved-moved f g [] = refl
moved-moved f g (x ∷ l) = ap (λ m. (x.0, g (f x.1)) ∷ m) (moved-moved f g l)

pub moved_ext : {X Y : Type 0} (f g : X → Y) (l : List (ℕ × X)) → ((x : X) → f x ≡ g x) → moved f l ≡ moved g l
moved_ext f g [] h = refl
moved_ext f g (x ∷ l) h = ap₂ (λ y m. (x.0, y) ∷ m) (h x.1) (moved_ext f g l h)

-- the list with the proofs
abbrev pub proved : {X : Type 0} (P : X → Type 0) (l : List (ℕ × X)) → AllTerms l P → List (ℕ × ((x : X) × P x))
proved P [] h = []
proved P (x ∷ l) h = (x.0, (x.1, h.0)) ∷ proved P l h.1

pub moved-proved : {X : Type 0} (P : X → Type 0) (l : List (ℕ × X)) (h : AllTerms l P) → moved (λ p. p.0) (proved P l h) ≡ l
moved-proved P [] h = refl
moved-proved P (x ∷ l) h = ap (λ m. x ∷ m) (moved-proved P l h.1)

pub moved_eq : {X Y : Type 0} (f g : X → Y) (P : X → Type 0) (l : List (ℕ × X)) → AllTerms l P → ((x : X) → P x → f x ≡ g x) → moved f l ≡ moved g l
moved_eq f g P [] h k = refl
moved_eq f g P (x ∷ l) h k = ap₂ (λ y m. (x.0, y) ∷ m) (k x.1 h.0) (moved_eq f g P l h.1 k)

pub AllTerms-imp : {X : Type 0} (P Q : X → Type 0) (l : List (ℕ × X)) → ((x : X) → P x → Q x) → AllTerms l P → AllTerms l Q
AllTerms-imp P Q [] f h = tt
AllTerms-imp P Q (x ∷ l) f h = (f x.1 h.0, AllTerms-imp P Q l f h.1)

module _ (M : Type 0) (dec : Discrete M) (q : ℕ) where
  without : M → List (ℕ × M) → List (ℕ × M)
  without m [] = []
  without m (x ∷ e) = keep (dec x.1 m) x (without m e)

  keep_size : (d : (ℕ × M)) (C : Type 0) (c : Dec C) (l : List (ℕ × M)) → length (keep c d l) ≤ suc (length l)
  keep_size d C (yes _) l = omega arith
  keep_size d C (no _) l = omega arith

  without_size : (m : M) (e : List (ℕ × M)) → length (without m e) ≤ length e
  unfolding without
  without_size m [] = omega arith
  without_size m (x ∷ e) = omega (arith, keep_size x (x.1 ≡ m) (dec x.1 m) (without m e), without_size m e)

  kept_sum : (m : M) (x : ℕ × M) (d : Dec (x.1 ≡ m)) (l : List (ℕ × M)) (f : M → ℕ) (c s : ℕ) → s ≡ c * f m + sum_over l f
      → x.0 * f x.1 + s ≡ (choose d x.0 0 + c) * f m + sum_over (keep d x l) f
  kept_sum m x (yes e) l f c s h = rw (e, h) (omega arith)
  kept_sum m x (no n) l f c s h = omega arith

  sum_without : (m : M) (e : List (ℕ × M)) (f : M → ℕ) → sum_over e f ≡ coef dec e m * f m + sum_over (without m e) f
  unfolding without coef
  sum_without m [] f = omega arith
  sum_without m (x ∷ e) f = kept_sum m x (dec x.1 m) (without m e) f (coef dec e m) (sum_over e f) (sum_without m e f)

  kept_same : (m : M) (x : ℕ × M) (d : Dec (x.1 ≡ m)) (l : List (ℕ × M)) → coef dec l m ≡ 0 → coef dec (keep d x l) m ≡ 0
  unfolding coef
  kept_same m x (yes e) l h = h
  kept_same m x (no n) l h = go (dec x.1 m)
    where
      go : (d : Dec (x.1 ≡ m)) → choose d x.0 0 + coef dec l m ≡ 0
      go (yes e) = absurd (n e)
      go (no _) = omega arith

  without_same : (m : M) (e : List (ℕ × M)) → coef dec (without m e) m ≡ 0
  unfolding without coef
  without_same m [] = refl
  without_same m (x ∷ e) = kept_same m x (dec x.1 m) (without m e) (without_same m e)

  kept_other : (m t : M) → (t ≢ m) → (x : ℕ × M) (d : Dec (x.1 ≡ m)) (l : List (ℕ × M)) (c : ℕ) → coef dec l t ≡ c → coef dec (keep d x l) t ≡ choose (dec x.1 t) x.0 0 + c
  unfolding coef
  kept_other m t ne x (yes e) l c h = go (dec x.1 t)
    where
      go : (d : Dec (x.1 ≡ t)) → coef dec l t ≡ choose d x.0 0 + c
      go (yes f) = absurd (ne (sym f ∙ e))
      go (no _) = omega arith
  kept_other m t ne x (no n) l c h = ap (λ k. choose (dec x.1 t) x.0 0 + k) h

  without_other : (m t : M) → (t ≢ m) → (e : List (ℕ × M)) → coef dec (without m e) t ≡ coef dec e t
  unfolding without coef
  without_other m t ne [] = refl
  without_other m t ne (x ∷ e) = kept_other m t ne x (dec x.1 m) (without m e) (coef dec e t) (without_other m t ne e)

  head_other : (x : ℕ × M) (e : List (ℕ × M)) (t : M) → (t ≢ x.1) → coef dec (x ∷ e) t ≡ coef dec e t
  unfolding coef
  head_other x e t ne = go (dec x.1 t)
    where
      go : (d : Dec (x.1 ≡ t)) → choose d x.0 0 + coef dec e t ≡ coef dec e t
      go (yes f) = absurd (ne (sym f))
      go (no _) = omega arith

  head_sum : (x : ℕ × M) (e : List (ℕ × M)) (f : M → ℕ) → sum_over (x ∷ e) f ≡ coef dec (x ∷ e) x.1 * f x.1 + sum_over (without x.1 e) f
  unfolding coef
  head_sum x e f = go (dec x.1 x.1)
    where
      go : (d : Dec (x.1 ≡ x.1)) → x.0 * f x.1 + sum_over e f ≡ (choose d x.0 0 + coef dec e x.1) * f x.1 + sum_over (without x.1 e) f
      go (yes _) = omega (arith, sum_without x.1 e f)
      go (no n) = absurd (n refl)

  sums_zero : (n : ℕ) (e : List (ℕ × M)) (f : M → ℕ) → length e ≤ n → ((t : M) → IsCongruent q (coef dec e t) 0) → IsCongruent q (sum_over e f) 0
  sums_zero n [] f le h = refl
  sums_zero zero (x ∷ e) f le h = absurd (omega arith)
  sums_zero (suc n) (x ∷ e) f le h =
      let k : IsCongruent q (sum_over (without x.1 e) f) 0 = sums_zero n (without x.1 e) f (omega (arith, without_size x.1 e, le)) (λ t. at t (dec t x.1)) in
      let z : 0 * f x.1 + 0 ≡ 0 = omega arith in
      rw (head_sum x e f) (rw z at (congruent_add q (coef dec (x ∷ e) x.1 * f x.1) (0 * f x.1) _ _ (congruent_mul q (coef dec (x ∷ e) x.1) 0 (f x.1) (f x.1) (h x.1) refl) k))
    where
      at : (t : M) → Dec (t ≡ x.1) → IsCongruent q (coef dec (without x.1 e) t) 0
      at t (yes p) = rw p (rw (without_same x.1 e) refl)
      at t (no ne) = rw (without_other x.1 t ne e, ← head_other x e t ne) (h t)

  -- a sum of values at the trees of an element depends on its coefficients alone
  pub same_sum : (e g : List (ℕ × M)) (f : M → ℕ) → Same dec q e g → IsCongruent q (sum_over e f) (sum_over g f)
  same_sum e g f h =
      let z : IsCongruent q (sum_over (e ++ scale q g) f) 0 = sums_zero (length (e ++ scale q g)) (e ++ scale q g) f (omega arith) gone in
      let s : IsCongruent q (sum_over e f + q * sum_over g f) 0 = rw (sum_over-append e (scale q g) f, sum_over-scale q g f) at z in
      congruent_of_gone q (sum_over e f) (sum_over g f) s
    where
      gone : (t : M) → IsCongruent q (coef dec (e ++ scale q g) t) 0
      gone t =
          let a : IsCongruent q (coef dec e t + q * coef dec g t) (coef dec g t + q * coef dec g t) = congruent_add q (coef dec e t) (coef dec g t) _ _ (h t) refl in
          rw (coef-append dec e (scale q g) t, coef-scale dec q g t) (a ∙ congruent_gone q (coef dec g t))

-- the images of one sum are one sum
pub Same-moved : {M N : Type 0} (dec : Discrete M) (decn : Discrete N) (q : ℕ) (f : M → N) (e g : List (ℕ × M)) → Same dec q e g → Same decn q (moved f e) (moved f g)
Same-moved {M} dec decn q f e g h t = rw (coef-moved decn f e t, coef-moved decn f g t) (same_sum M dec q e g (λ x. choose {B = ℕ} (decn (f x) t) 1 0) h)

pub moved-scale : {M N : Type 0} (f : M → N) (c : ℕ) (e : List (ℕ × M)) → moved f (scale c e) ≡ scale c (moved f e)
unfolding scale
moved-scale f c [] = refl
moved-scale f c (x ∷ e) = ap (λ m. (c * x.0, f x.1) ∷ m) (moved-scale f c e)

-- the image of a sum of instances is the sum of their images
pub moved-expand : {I J M N : Type 0} (vi : I → List (ℕ × M)) (vj : J → List (ℕ × N)) (f : M → N) (g : I → J) → ((i : I) → vj (g i) ≡ moved f (vi i))
    → (l : List (ℕ × I)) → moved f (expand vi l) ≡ expand vj (moved g l)
unfolding expand
moved-expand vi vj f g h [] = refl
moved-expand vi vj f g h (x ∷ l) =
    moved-append f (scale x.0 (vi x.1)) (expand vi l)
    ∙ ap₂ (λ a b. a ++ b) (moved-scale f x.0 (vi x.1) ∙ ap (scale x.0) (sym (h x.1))) (moved-expand vi vj f g h l)
