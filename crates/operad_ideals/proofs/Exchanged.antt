-- Neighbouring inputs that change places, and inputs that stand for the leaves of a generator.
use Rattle.std.proofs.Common.{◌≡◌, ℕ, zero, suc, pred, ◌+◌, ◌<◌, ◌≤◌, List, [], ◌∷◌, ◌++◌, length, refl, sym, ap, ◌∙◌, subst, arith}
use mathlib.Core.Path.{ap₂}
use native.Mathlib.Decide.{ℕ_discrete}
use Rattle.labelled_trees.specs.Trees.{Tree, Row, leaf, none, more, row, graft, graft_row, width}
use Rattle.labelled_trees.specs.Leaves.{one_if, sum_leaves, sum_row, AllRow, occurs_row}
use Rattle.labelled_trees.specs.Labelled.{FitsRow}
use Rattle.labelled_trees.proofs.Leaves.{AllRow-imp, one_if-yes}
use Rattle.operad_ideals.specs.Rules.{numbered, exchanged_at}

pub exchanged-row : {A : Type 0} (front : List (Tree A)) (a b : Tree A) (back : List (Tree A)) → exchanged_at (length front) (row (front ++ a ∷ (b ∷ back))) ≡ row (front ++ b ∷ (a ∷ back))
exchanged-row [] a b back = refl
exchanged-row (t ∷ front) a b back = ap (more t) (exchanged-row front a b back)

pub graft_row-exchanged : {A B : Type 0} (i : ℕ) (r : Row A) (s : A → Tree B) → graft_row (exchanged_at i r) s ≡ exchanged_at i (graft_row r s)
graft_row-exchanged zero none s = refl
graft_row-exchanged zero (more t none) s = refl
graft_row-exchanged zero (more t (more u r)) s = refl
graft_row-exchanged (suc i) none s = refl
graft_row-exchanged (suc i) (more t r) s = ap (more (graft t s)) (graft_row-exchanged i r s)

pub width-exchanged : {A : Type 0} (i : ℕ) (r : Row A) → width (exchanged_at i r) ≡ width r
width-exchanged zero none = refl
width-exchanged zero (more t none) = refl
width-exchanged zero (more t (more u r)) = refl
width-exchanged (suc i) none = refl
width-exchanged (suc i) (more t r) = ap suc (width-exchanged i r)

pub sum_row-exchanged : {A : Type 0} (i : ℕ) (r : Row A) (f : A → ℕ) → sum_row (exchanged_at i r) f ≡ sum_row r f
sum_row-exchanged zero none f = refl
sum_row-exchanged zero (more t none) f = refl
sum_row-exchanged zero (more t (more u r)) f = omega arith
sum_row-exchanged (suc i) none f = refl
sum_row-exchanged (suc i) (more t r) f = ap (λ k. sum_leaves t f + k) (sum_row-exchanged i r f)

pub all_row-exchanged : {A : Type 0} (P : A → Type 0) (i : ℕ) (r : Row A) → AllRow r P → AllRow (exchanged_at i r) P
all_row-exchanged P zero none h = tt
all_row-exchanged P zero (more t none) h = h
all_row-exchanged P zero (more t (more u r)) h = (h.1.0, (h.0, h.1.1))
all_row-exchanged P (suc i) none h = tt
all_row-exchanged P (suc i) (more t r) h = (h.0, all_row-exchanged P i r h.1)

pub fits_row-exchanged : {A : Type 0} (arity : ℕ → ℕ) (i : ℕ) (r : Row A) → FitsRow arity r → FitsRow arity (exchanged_at i r)
fits_row-exchanged arity zero none h = tt
fits_row-exchanged arity zero (more t none) h = h
fits_row-exchanged arity zero (more t (more u r)) h = (h.1.0, (h.0, h.1.1))
fits_row-exchanged arity (suc i) none h = tt
fits_row-exchanged arity (suc i) (more t r) h = (h.0, fits_row-exchanged arity i r h.1)

-- the input i of a row, counted from 0, or else leaf 0
abbrev pub input_at : Row ℕ → ℕ → Tree ℕ
input_at none i = leaf 0
input_at (more t r) zero = t
input_at (more t r) (suc i) = input_at r i

numbered_inputs : (a : ℕ) (r : Row ℕ) (s : ℕ → Tree ℕ) → ((i : ℕ) → s (suc (a + i)) ≡ input_at r i) → graft_row (numbered a (width r)) s ≡ r
numbered_inputs a none s h = refl
numbered_inputs a (more t r) s h =
    let z : suc (a + 0) ≡ suc a = omega arith in
    ap₂ more (ap s (sym z) ∙ h 0) (numbered_inputs (suc a) r s (λ i. let e : suc (suc a + i) ≡ suc (a + suc i) = omega arith in ap s e ∙ h (suc i)))

-- the input with the number of a leaf
abbrev pub for_leaf : Row ℕ → ℕ → Tree ℕ
for_leaf r i = input_at r (pred i)

-- a row is the leaves 1 to its width, with its inputs for the leaves
pub numbered-for_leaf : (k : ℕ) (r : Row ℕ) → width r ≡ k → graft_row (numbered 0 k) (for_leaf r) ≡ r
numbered-for_leaf k r e = subst (λ m. graft_row (numbered 0 m) (for_leaf r) ≡ r) e
    (numbered_inputs 0 r (for_leaf r) (λ i. let z : 0 + i ≡ i = omega arith in ap (input_at r) z))

-- the numbers of the leaves of a generator
pub numbered_within : (a k : ℕ) → AllRow (numbered a k) (λ i. (a < i) × (i ≤ a + k))
numbered_within a zero = tt
numbered_within a (suc k) = (
  (omega arith, omega arith),
  AllRow-imp (numbered (suc a) k) (λ i. (suc a < i) × (i ≤ suc a + k)) (λ i. (a < i) × (i ≤ a + suc k)) (λ i h. (omega (arith, h.0), omega (arith, h.1))) (numbered_within (suc a) k),
)

pub numbered_each : (a k i : ℕ) → a < i → i ≤ a + k → 0 < occurs_row i (numbered a k)
numbered_each a zero i lt le = absurd (omega (arith, lt, le))
numbered_each a (suc k) i lt le = go (ℕ_discrete i (suc a)) (λ h. numbered_each (suc a) k i h (omega (arith, le)))
  where
    go : Dec (i ≡ suc a) → (suc a < i → 0 < occurs_row i (numbered (suc a) k)) → 0 < occurs_row i (numbered a (suc k))
    go (yes e) ih = let o : one_if (ℕ_discrete (suc a) (suc a)) ≡ 1 = one_if-yes (ℕ_discrete (suc a) (suc a)) refl in
        subst (λ j. 0 < occurs_row j (numbered a (suc k))) (sym e) (omega (arith, o))
    go (no f) ih = let h : 0 < occurs_row i (numbered (suc a) k) = ih (omega (arith, f, lt)) in omega (arith, h)
