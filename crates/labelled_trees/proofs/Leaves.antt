-- Sums and facts over leaves.
use Rattle.std.proofs.Common.{◌≡◌, ℕ, ◌+◌, ◌≤◌, ◌<◌, refl, ◌∙◌, arith, subst}
use mathlib.Core.Path.{ap₂}
use native.Mathlib.Decide.{ℕ_discrete, dec_lt}
use Rattle.labelled_trees.specs.Trees.{Tree, Row, leaf, node, none, more}
use Rattle.labelled_trees.specs.Leaves.{sum_leaves, sum_row, AllLeaves, AllRow, one_if, occurs, occurs_row, leaf_count}

pub one_if-yes : {C : Type 0} (d : Dec C) → C → one_if d ≡ 1
one_if-yes (yes _) c = refl
one_if-yes (no f) c = absurd (f c)

pub one_if-no : {C : Type 0} (d : Dec C) → (C → ⊥) → one_if d ≡ 0
one_if-no (yes c) f = absurd (f c)
one_if-no (no _) f = refl

pub one_if-≤ : {C : Type 0} (d : Dec C) → one_if d ≤ 1
one_if-≤ (yes _) = omega arith
one_if-≤ (no _) = omega arith

pub holds_if_one : {C : Type 0} (d : Dec C) → 0 < one_if d → C
holds_if_one (yes c) h = c
holds_if_one (no _) h = absurd (omega arith)

mutual
  pub sum_leaves-add : {A : Type 0} (t : Tree A) (f g : A → ℕ) → sum_leaves t (λ a. f a + g a) ≡ sum_leaves t f + sum_leaves t g
  sum_leaves-add (leaf a) f g = refl
  sum_leaves-add (node l r) f g = sum_row-add r f g

  pub sum_row-add : {A : Type 0} (r : Row A) (f g : A → ℕ) → sum_row r (λ a. f a + g a) ≡ sum_row r f + sum_row r g
  sum_row-add none f g = refl
  sum_row-add (more t r) f g = omega (arith, sum_leaves-add t f g, sum_row-add r f g)

mutual
  pub sum_leaves-≤ : {A : Type 0} (t : Tree A) (f g : A → ℕ) → AllLeaves t (λ a. f a ≤ g a) → sum_leaves t f ≤ sum_leaves t g
  sum_leaves-≤ (leaf a) f g h = h
  sum_leaves-≤ (node l r) f g h = sum_row-≤ r f g h

  pub sum_row-≤ : {A : Type 0} (r : Row A) (f g : A → ℕ) → AllRow r (λ a. f a ≤ g a) → sum_row r f ≤ sum_row r g
  sum_row-≤ none f g h = omega arith
  sum_row-≤ (more t r) f g h = omega (arith, sum_leaves-≤ t f g h.0, sum_row-≤ r f g h.1)

mutual
  pub sum_leaves-same : {A : Type 0} (t : Tree A) (f g : A → ℕ) → AllLeaves t (λ a. f a ≡ g a) → sum_leaves t f ≡ sum_leaves t g
  sum_leaves-same (leaf a) f g h = h
  sum_leaves-same (node l r) f g h = sum_row-same r f g h

  pub sum_row-same : {A : Type 0} (r : Row A) (f g : A → ℕ) → AllRow r (λ a. f a ≡ g a) → sum_row r f ≡ sum_row r g
  sum_row-same none f g h = refl
  sum_row-same (more t r) f g h = ap₂ (λ m n. m + n) (sum_leaves-same t f g h.0) (sum_row-same r f g h.1)

mutual
  pub sum_leaves-zero : {A : Type 0} (t : Tree A) → sum_leaves t (λ x. 0) ≡ 0
  sum_leaves-zero (leaf a) = refl
  sum_leaves-zero (node l r) = sum_row-zero r

  pub sum_row-zero : {A : Type 0} (r : Row A) → sum_row r (λ x. 0) ≡ 0
  sum_row-zero none = refl
  sum_row-zero (more t r) = omega (arith, sum_leaves-zero t, sum_row-zero r)

either_part : (a b : ℕ) (Q : Type 0) → Dec (0 < a) → (0 < a → Q) → (0 < b → Q) → 0 < a + b → Q
either_part a b Q (yes k) f g h = f k
either_part a b Q (no k) f g h = g (omega arith)

mutual
  -- what holds of each leaf holds of a number that occurs
  pub at_leaf : (t : Tree ℕ) (P : ℕ → Type 0) (i : ℕ) → AllLeaves t P → 0 < occurs i t → P i
  at_leaf (leaf n) P i h o = subst P (holds_if_one (ℕ_discrete n i) o) h
  at_leaf (node l r) P i h o = at_row r P i h o

  pub at_row : (r : Row ℕ) (P : ℕ → Type 0) (i : ℕ) → AllRow r P → 0 < occurs_row i r → P i
  at_row none P i h o = absurd (omega arith)
  at_row (more t r) P i h o = either_part (occurs i t) (occurs_row i r) (P i) (dec_lt 0 (occurs i t)) (λ k. at_leaf t P i h.0 k) (λ k. at_row r P i h.1 k) o

-- a leaf has its number once
pub occurs_self : (n : ℕ) → occurs n (leaf n) ≡ 1
occurs_self n = one_if-yes (ℕ_discrete n n) refl

mutual
  -- what holds of each number that occurs holds of each leaf
  pub by_leaf : (t : Tree ℕ) (P : ℕ → Type 0) → ((i : ℕ) → 0 < occurs i t → P i) → AllLeaves t P
  by_leaf (leaf n) P f = f n (let one = occurs_self n in omega (arith, one))
  by_leaf (node l r) P f = by_row r P f

  pub by_row : (r : Row ℕ) (P : ℕ → Type 0) → ((i : ℕ) → 0 < occurs_row i r → P i) → AllRow r P
  by_row none P f = tt
  by_row (more t r) P f = (by_leaf t P (λ i h. f i (omega (arith, h))), by_row r P (λ i h. f i (omega (arith, h))))

mutual
  -- what holds of each value holds at each leaf
  pub AllLeaves-each : {A : Type 0} (t : Tree A) (P : A → Type 0) → ((a : A) → P a) → AllLeaves t P
  AllLeaves-each (leaf a) P h = h a
  AllLeaves-each (node l r) P h = AllRow-each r P h

  pub AllRow-each : {A : Type 0} (r : Row A) (P : A → Type 0) → ((a : A) → P a) → AllRow r P
  AllRow-each none P h = tt
  AllRow-each (more t r) P h = (AllLeaves-each t P h, AllRow-each r P h)

mutual
  pub AllLeaves-imp : {A : Type 0} (t : Tree A) (P Q : A → Type 0) → ((a : A) → P a → Q a) → AllLeaves t P → AllLeaves t Q
  AllLeaves-imp (leaf a) P Q f h = f a h
  AllLeaves-imp (node l r) P Q f h = AllRow-imp r P Q f h

  pub AllRow-imp : {A : Type 0} (r : Row A) (P Q : A → Type 0) → ((a : A) → P a → Q a) → AllRow r P → AllRow r Q
  AllRow-imp none P Q f h = tt
  AllRow-imp (more t r) P Q f h = (AllLeaves-imp t P Q f h.0, AllRow-imp r P Q f h.1)

mutual
  pub AllLeaves-and : {A : Type 0} (t : Tree A) (P Q : A → Type 0) → AllLeaves t P → AllLeaves t Q → AllLeaves t (λ a. P a × Q a)
  AllLeaves-and (leaf a) P Q h k = (h, k)
  AllLeaves-and (node l r) P Q h k = AllRow-and r P Q h k

  pub AllRow-and : {A : Type 0} (r : Row A) (P Q : A → Type 0) → AllRow r P → AllRow r Q → AllRow r (λ a. P a × Q a)
  AllRow-and none P Q h k = tt
  AllRow-and (more t r) P Q h k = (AllLeaves-and t P Q h.0 k.0, AllRow-and r P Q h.1 k.1)

mutual
  -- where a sum over the leaves is at most k, so is each value
  pub AllLeaves-≤ : {A : Type 0} (t : Tree A) (f : A → ℕ) (k : ℕ) → sum_leaves t f ≤ k → AllLeaves t (λ a. f a ≤ k)
  AllLeaves-≤ (leaf a) f k h = h
  AllLeaves-≤ (node l r) f k h = AllRow-≤ r f k h

  pub AllRow-≤ : {A : Type 0} (r : Row A) (f : A → ℕ) (k : ℕ) → sum_row r f ≤ k → AllRow r (λ a. f a ≤ k)
  AllRow-≤ none f k h = tt
  AllRow-≤ (more t r) f k h = (AllLeaves-≤ t f k (omega (arith, h)), AllRow-≤ r f k (omega (arith, h)))

-- where a sum over the leaves is 0, so is each value
pub AllLeaves-zero : {A : Type 0} (t : Tree A) (f : A → ℕ) → sum_leaves t f ≡ 0 → AllLeaves t (λ a. f a ≡ 0)
AllLeaves-zero t f h = AllLeaves-imp t (λ a. f a ≤ 0) (λ a. f a ≡ 0) (λ a k. omega (arith, k)) (AllLeaves-≤ t f 0 (omega (arith, h)))

-- and where each value is 0, so is the sum
pub sum_leaves-all_zero : {A : Type 0} (t : Tree A) (f : A → ℕ) → AllLeaves t (λ a. f a ≡ 0) → sum_leaves t f ≡ 0
sum_leaves-all_zero t f h = sum_leaves-same t f (λ a. 0) h ∙ sum_leaves-zero t

-- a number stands at no more leaves than there are
pub occurs-≤ : (i : ℕ) (t : Tree ℕ) → occurs i t ≤ leaf_count t
occurs-≤ i t = sum_leaves-≤ t (λ n. one_if (ℕ_discrete n i)) (λ n. 1) (AllLeaves-each t (λ n. one_if (ℕ_discrete n i) ≤ 1) (λ n. one_if-≤ (ℕ_discrete n i)))
