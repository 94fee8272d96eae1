-- Decisions on lists, numbers and sums.
use Rattle.std.proofs.Common.{◌≡◌, ℕ, suc, ◌%◌, ◌≤◌, List, [], ◌∷◌, refl, sym, ◌∙◌, ap, arith, subst, inl, inr, ◌⊎◌}
use Rattle.std.specs.List.{AllByRecursion}
use mathlib.Core.List.{◌++◌}
use Rattle.std.specs.Prelude.{Option, Some, None}
use Rattle.std.specs.declared.cmp.Ordering.{Ordering}
use Rattle.std.specs.declared.cmp.Ordering.TheVariants.{Less, Equal, Greater}
use native.Mathlib.Decide.{ℕ_discrete, dec_lt}
use Rattle.modular_sums.specs.Residues.{IsCongruent}
use Rattle.modular_sums.specs.Lists.{Mem, Distinct, nth}
use Rattle.modular_sums.specs.Sums.{coef, Same, AllTerms}
use Rattle.modular_sums.proofs.Lists.{mem_left, mem_right}
use Rattle.modular_sums.proofs.Coefficients.{coef_absent}
use Rattle.modular_sums.proofs.Sameness.{monomials}

-- ---- facts put together

pub dec_both : {A B : Type 0} → Dec A → Dec B → Dec (A × B)
dec_both (yes a) (yes b) = yes (a, b)
dec_both (no f) d = no (λ p. f p.0)
dec_both (yes a) (no g) = no (λ p. g p.1)

pub dec_not : {A : Type 0} → Dec A → Dec (A → ⊥)
dec_not (yes a) = no (λ f. f a)
dec_not (no f) = yes f

pub dec_either : {A B : Type 0} → Dec A → Dec B → Dec (A ⊎ B)
dec_either (yes a) d = yes (inl a)
dec_either (no f) (yes b) = yes (inr b)
dec_either {A} {B} (no f) (no g) = no neither
  where
    neither : A ⊎ B → ⊥
    neither (inl a) = f a
    neither (inr b) = g b

-- a fact that holds exactly where another does
pub dec_by : {A B : Type 0} → (A → B) → (B → A) → Dec A → Dec B
dec_by f g (yes a) = yes (f a)
dec_by f g (no n) = no (λ b. n (g b))

-- where a fact holds if another does, and else not, the other may be used for it
pub dec_under : {A B : Type 0} → Dec A → (B → A) → (A → Dec B) → Dec B
dec_under (yes a) g f = f a
dec_under (no n) g f = no (λ b. n (g b))

pub dec_le : (m n : ℕ) → Dec (m ≤ n)
dec_le m n = dec_by (λ h. omega (arith, h)) (λ h. omega (arith, h)) (dec_lt m (suc n))

pub dec_less : (o : Ordering) → Dec (o ≡ Less)
dec_less Less = yes refl
dec_less Equal = no (λ e. cc e)
dec_less Greater = no (λ e. cc e)

-- ---- lists

-- each of a list
pub dec_each : {X : Type 0} (P : X → Type 0) → ((x : X) → Dec (P x)) → (l : List X) → Dec (AllByRecursion P l)
dec_each P dec [] = yes tt
dec_each P dec (x ∷ l) = dec_both (dec x) (dec_each P dec l)

pub dec_members : {X : Type 0} (P : X → Type 0) → ((x : X) → Dec (P x)) → (l : List X) → Dec ((x : X) → Mem x l → P x)
dec_members P dec [] = yes (λ x m. absurd m)
dec_members {X} P dec (y ∷ l) = go (dec y) (dec_members P dec l)
  where
    go : Dec (P y) → Dec ((x : X) → Mem x l → P x) → Dec ((x : X) → Mem x (y ∷ l) → P x)
    go (yes h) (yes k) = yes all
      where
        all : (x : X) → Mem x (y ∷ l) → P x
        all x (inl e) = subst P (sym e) h
        all x (inr m) = k x m
    go (no n) d = no (λ f. n (f y (inl refl)))
    go (yes h) (no n) = no (λ f. n (λ x m. f x (inr m)))

-- some of a list
pub dec_some : {X : Type 0} (P : X → Type 0) → ((x : X) → Dec (P x)) → (l : List X) → Dec ((x : X) × Mem x l × P x)
dec_some P dec [] = no (λ h. absurd h.1)
dec_some {X} P dec (y ∷ l) = go (dec y) (dec_some P dec l)
  where
    go : Dec (P y) → Dec ((x : X) × Mem x l × P x) → Dec ((x : X) × Mem x (y ∷ l) × P x)
    go (yes h) d = yes (y, inl refl, h)
    go (no n) (yes k) = yes (k.0, inr k.1, k.2)
    go (no n) (no f) = no (λ h. none h.0 h.1 h.2)
      where
        none : (x : X) → Mem x (y ∷ l) → P x → ⊥
        none x (inl e) h = n (subst P e h)
        none x (inr m) h = f (x, m, h)

pub dec_mem : {X : Type 0} → Discrete X → (x : X) (l : List X) → Dec (Mem x l)
dec_mem dec x l = dec_by (λ h. subst (λ y. Mem y l) (sym h.2) h.1) (λ m. (x, m, refl)) (dec_some (λ y. x ≡ y) (dec x) l)

pub dec_all_terms : {X : Type 0} (P : X → Type 0) → ((x : X) → Dec (P x)) → (e : List (ℕ × X)) → Dec (AllTerms e P)
dec_all_terms P dec [] = yes tt
dec_all_terms P dec (x ∷ e) = dec_both (dec x.1) (dec_all_terms P dec e)

-- the things of a list of which P holds, each once
pub record Kept {X : Type 0} (P : X → Type 0) (l : List X) : Type 0 where
  pub list : List X
  pub once : Distinct list
  pub into : (x : X) → Mem x l → P x → Mem x list
  pub holds : (x : X) → Mem x list → P x

pub kept : {X : Type 0} → Discrete X → (P : X → Type 0) → ((x : X) → Dec (P x)) → (l : List X) → Kept P l
kept dec P decide [] = record { list = []; once = tt; into = λ x m h. m; holds = λ x m. absurd m }
kept {X} dec P decide (y ∷ l) = go (kept dec P decide l) (decide y)
  where
    go : Kept P l → Dec (P y) → Kept P (y ∷ l)
    go k (no n) = record { list = k.list; once = k.once; into = into; holds = k.holds }
      where
        into : (x : X) → Mem x (y ∷ l) → P x → Mem x k.list
        into x (inl e) h = absurd (n (subst P e h))
        into x (inr m) h = k.into x m h
    go k (yes h) = add (dec_mem dec y k.list)
      where
        add : Dec (Mem y k.list) → Kept P (y ∷ l)
        add (yes m) = record { list = k.list; once = k.once; into = into; holds = k.holds }
          where
            into : (x : X) → Mem x (y ∷ l) → P x → Mem x k.list
            into x (inl e) q = subst (λ z. Mem z k.list) (sym e) m
            into x (inr n) q = k.into x n q
        add (no n) = record { list = y ∷ k.list; once = (n, k.once); into = into; holds = each }
          where
            into : (x : X) → Mem x (y ∷ l) → P x → Mem x (y ∷ k.list)
            into x (inl e) q = inl e
            into x (inr m) q = inr (k.into x m q)

            each : (x : X) → Mem x (y ∷ k.list) → P x
            each x (inl e) = subst P (sym e) h
            each x (inr m) = k.holds x m

-- the thing with a number, or that there is none
pub look_up : {X : Type 0} (l : List X) (k : ℕ) → ((x : X) × (nth l k ≡ Some x)) ⊎ ((x : X) → nth l k ≡ Some x → ⊥)
look_up {X} l k = go (nth l k) refl
  where
    go : (o : Option X) → nth l k ≡ o → ((x : X) × (nth l k ≡ Some x)) ⊎ ((x : X) → nth l k ≡ Some x → ⊥)
    go None e = inr (λ x h. cc (e, h))
    go (Some x) e = inl (x, e)

-- ---- sums

pub dec_alike : (q a b : ℕ) → Dec (IsCongruent q a b)
dec_alike q a b = ℕ_discrete (a % suc q) (b % suc q)

-- a monomial stands in the sum, or its coefficient is 0
monomial_or_zero : {M : Type 0} (dec : Discrete M) (e : List (ℕ × M)) (t : M) → Dec (Mem t (monomials e)) → Mem t (monomials e) ⊎ (coef dec e t ≡ 0)
monomial_or_zero dec e t (yes m) = inl m
monomial_or_zero {M} dec e t (no n) = inr (coef_absent dec e t (away e n))
  where
    away : (f : List (ℕ × M)) → (Mem t (monomials f) → ⊥) → AllTerms f (λ x. x ≡ t → ⊥)
    away [] k = tt
    away (x ∷ f) k = (λ s. k (inl (sym s)), away f (λ m. k (inr m)))

-- what holds at each monomial of a sum, and where coefficients are 0, holds everywhere
pub dec_same : {M : Type 0} (dec : Discrete M) (q : ℕ) (e f : List (ℕ × M)) → Dec (Same dec q e f)
dec_same {M} dec q e f = dec_by (λ h t. all h t) (λ h t m. h t) (dec_members (λ t. IsCongruent q (coef dec e t) (coef dec f t)) (λ t. dec_alike q (coef dec e t) (coef dec f t)) (monomials e ++ monomials f))
  where
    all : ((t : M) → Mem t (monomials e ++ monomials f) → IsCongruent q (coef dec e t) (coef dec f t)) → (t : M) → IsCongruent q (coef dec e t) (coef dec f t)
    all h t = go (monomial_or_zero dec e t (dec_mem dec t (monomials e))) (monomial_or_zero dec f t (dec_mem dec t (monomials f)))
      where
        go : Mem t (monomials e) ⊎ (coef dec e t ≡ 0) → Mem t (monomials f) ⊎ (coef dec f t ≡ 0) → IsCongruent q (coef dec e t) (coef dec f t)
        go (inl m) d = h t (mem_left t (monomials e) (monomials f) m)
        go (inr a) (inl m) = h t (mem_right t (monomials e) (monomials f) m)
        go (inr a) (inr b) = ap (λ n. n % suc q) (a ∙ sym b)

-- whether a fact holds of each monomial whose coefficient isn't 0, where the fact is decided
pub dec_monomials : {M : Type 0} (dec : Discrete M) (q : ℕ) (e : List (ℕ × M)) (P : M → Type 0) → ((t : M) → Dec (P t)) → Dec ((t : M) → P t → IsCongruent q (coef dec e t) 0)
dec_monomials {M} dec q e P decide = dec_by (λ h t k. all h t k) (λ h t m k. h t k)
    (dec_members (λ t. P t → IsCongruent q (coef dec e t) 0) (λ t. implied (decide t) (dec_alike q (coef dec e t) 0)) (monomials e))
  where
    implied : {A B : Type 0} → Dec A → Dec B → Dec (A → B)
    implied (yes a) (yes b) = yes (λ x. b)
    implied (yes a) (no n) = no (λ f. n (f a))
    implied (no f) d = yes (λ a. absurd (f a))

    all : ((t : M) → Mem t (monomials e) → P t → IsCongruent q (coef dec e t) 0) → (t : M) → P t → IsCongruent q (coef dec e t) 0
    all h t k = go (monomial_or_zero dec e t (dec_mem dec t (monomials e)))
      where
        go : Mem t (monomials e) ⊎ (coef dec e t ≡ 0) → IsCongruent q (coef dec e t) 0
        go (inl m) = h t m k
        go (inr z) = ap (λ n. n % suc q) z
