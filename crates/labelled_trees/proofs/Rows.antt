-- Rows of trees and their lists of inputs.
use Rattle.std.specs.List.{AllByRecursion}
use Rattle.std.proofs.Common.{◌≡◌, ℕ, suc, ◌+◌, ◌≤◌, List, [], ◌∷◌, ◌++◌, length, refl, ap, arith}
use Rattle.labelled_trees.specs.Trees.{Tree, Row, none, more, row, inputs, width}
use Rattle.labelled_trees.specs.Leaves.{sum_leaves, sum_row}
use Rattle.labelled_trees.specs.Labelled.{Fits, FitsRow}

pub inputs-row : {A : Type 0} (ts : List (Tree A)) → inputs (row ts) ≡ ts
inputs-row [] = refl
inputs-row (t ∷ ts) = ap (λ us. t ∷ us) (inputs-row ts)

pub row-inputs : {A : Type 0} (r : Row A) → row (inputs r) ≡ r
row-inputs none = refl
row-inputs (more t r) = ap (more t) (row-inputs r)

pub width-row : {A : Type 0} (ts : List (Tree A)) → width (row ts) ≡ length ts
width-row [] = refl
width-row (t ∷ ts) = ap suc (width-row ts)

pub length-inputs : {A : Type 0} (r : Row A) → length (inputs r) ≡ width r
length-inputs none = refl
length-inputs (more t r) = ap suc (length-inputs r)

-- ---- two neighbours change places

pub width-exchange : {A : Type 0} (front : List (Tree A)) (a b : Tree A) (back : List (Tree A)) → width (row (front ++ a ∷ (b ∷ back))) ≡ width (row (front ++ b ∷ (a ∷ back)))
width-exchange [] a b back = refl
width-exchange (t ∷ ts) a b back = ap suc (width-exchange ts a b back)

pub sum_row-exchange : {A : Type 0} (f : A → ℕ) (front : List (Tree A)) (a b : Tree A) (back : List (Tree A)) → sum_row (row (front ++ a ∷ (b ∷ back))) f ≡ sum_row (row (front ++ b ∷ (a ∷ back))) f
sum_row-exchange f [] a b back = omega arith
sum_row-exchange f (t ∷ ts) a b back = ap (λ n. sum_leaves t f + n) (sum_row-exchange f ts a b back)

pub FitsRow-exchange : {A : Type 0} (arity : ℕ → ℕ) (front : List (Tree A)) (a b : Tree A) (back : List (Tree A)) → FitsRow arity (row (front ++ a ∷ (b ∷ back))) → FitsRow arity (row (front ++ b ∷ (a ∷ back)))
FitsRow-exchange arity [] a b back h = (h.1.0, (h.0, h.1.1))
FitsRow-exchange arity (t ∷ ts) a b back h = (h.0, FitsRow-exchange arity ts a b back h.1)

-- ---- one input is replaced by another

pub width-replace : {A : Type 0} (front : List (Tree A)) (a b : Tree A) (back : List (Tree A)) → width (row (front ++ a ∷ back)) ≡ width (row (front ++ b ∷ back))
width-replace [] a b back = refl
width-replace (t ∷ ts) a b back = ap suc (width-replace ts a b back)

pub sum_row-replace : {A : Type 0} (f : A → ℕ) (front : List (Tree A)) (a b : Tree A) (back : List (Tree A)) → sum_leaves a f ≡ sum_leaves b f → sum_row (row (front ++ a ∷ back)) f ≡ sum_row (row (front ++ b ∷ back)) f
sum_row-replace f [] a b back e = ap (λ n. n + sum_row (row back) f) e
sum_row-replace f (t ∷ ts) a b back e = ap (λ n. sum_leaves t f + n) (sum_row-replace f ts a b back e)

pub FitsRow-replace : {A : Type 0} (arity : ℕ → ℕ) (front : List (Tree A)) (a b : Tree A) (back : List (Tree A)) → (Fits arity a → Fits arity b) → FitsRow arity (row (front ++ a ∷ back)) → FitsRow arity (row (front ++ b ∷ back))
FitsRow-replace arity [] a b back f h = (f h.0, h.1)
FitsRow-replace arity (t ∷ ts) a b back f h = (h.0, FitsRow-replace arity ts a b back f h.1)

-- ---- one input among the others

pub fits_input : {A : Type 0} (arity : ℕ → ℕ) (front : List (Tree A)) (a : Tree A) (back : List (Tree A)) → FitsRow arity (row (front ++ a ∷ back)) → Fits arity a
fits_input arity [] a back h = h.0
fits_input arity (t ∷ ts) a back h = fits_input arity ts a back h.1

pub sum_leaves-le_row : {A : Type 0} (f : A → ℕ) (front : List (Tree A)) (a : Tree A) (back : List (Tree A)) → sum_leaves a f ≤ sum_row (row (front ++ a ∷ back)) f
sum_leaves-le_row f [] a back = omega arith
sum_leaves-le_row f (t ∷ ts) a back = omega (arith, sum_leaves-le_row f ts a back)

-- ---- a row fits where each input does

pub fits_row : {A : Type 0} (arity : ℕ → ℕ) (ts : List (Tree A)) → AllByRecursion (Fits arity) ts → FitsRow arity (row ts)
fits_row arity [] h = tt
fits_row arity (t ∷ ts) h = (h.0, fits_row arity ts h.1)

pub row_fits : {A : Type 0} (arity : ℕ → ℕ) (ts : List (Tree A)) → FitsRow arity (row ts) → AllByRecursion (Fits arity) ts
row_fits arity [] h = tt
row_fits arity (t ∷ ts) h = (h.0, row_fits arity ts h.1)
