-- The coefficients of a row.
use Rattle.std.proofs.Common.{◌≡◌, ◌≢◌, ℕ, zero, suc, ◌+◌, ◌<◌, List, [], ◌∷◌, length, get_or, arith, refl}
use native.Mathlib.Decide.{ℕ_discrete}
use Rattle.modular_sums.specs.Sums.{coef, AllTerms}
use Rattle.modular_sums.proofs.Images.{AllTerms-imp}
use Rattle.modular_sums.specs.PositionRows.{dense_from, dense, RowsAreSums}
use Rattle.modular_sums.specs.Lists.{choose}
use Rattle.modular_sums.proofs.Choices.{choose-yes, choose-no}

hit_here : (k x : ℕ) → choose (ℕ_discrete k k) x 0 ≡ x
hit_here k x = choose-yes (ℕ_discrete k k) x 0 refl

choose_not : (k t x : ℕ) → k ≢ t → choose (ℕ_discrete k t) x 0 ≡ 0
choose_not k t x n = choose-no (ℕ_discrete k t) x 0 n

-- no position below the first
coef_below : (row : List ℕ) (k t : ℕ) → t < k → coef ℕ_discrete (dense_from k row) t ≡ 0
unfolding coef
coef_below [] k t h = refl
coef_below (x ∷ row) k t h = let n : k ≢ t = omega arith in rw (choose_not k t x n, coef_below row (suc k) t (omega arith)) (omega arith)

coef_from : (row : List ℕ) (k j : ℕ) → coef ℕ_discrete (dense_from k row) (k + j) ≡ get_or row j 0
unfolding coef
coef_from [] k j = refl
coef_from (x ∷ row) k zero =
    let e : k + 0 ≡ k = omega arith in rw (e, hit_here k x, coef_below row (suc k) k (omega arith)) (omega arith)
coef_from (x ∷ row) k (suc j) =
    let n : k ≢ k + suc j = omega arith in
    let e : k + suc j ≡ suc k + j = omega arith in
    let z : 0 + get_or row j 0 ≡ get_or row j 0 = omega arith in
    rw (choose_not k (k + suc j) x n, e, coef_from row (suc k) j) z

-- the coefficient of a position is the number there
pub coef-dense : (row : List ℕ) (t : ℕ) → coef ℕ_discrete (dense row) t ≡ get_or row t 0
coef-dense row t = let e : 0 + t ≡ t = omega arith in rw e at (coef_from row 0 t)

within_from : (row : List ℕ) (k : ℕ) → AllTerms (dense_from k row) (λ t. t < k + length row)
within_from [] k = tt
within_from (x ∷ row) k = (omega arith, AllTerms-imp (λ t. t < suc k + length row) (λ t. t < k + suc (length row)) (dense_from (suc k) row) (λ t h. omega arith) (within_from row (suc k)))

pub dense_within : (row : List ℕ) → AllTerms (dense row) (λ t. t < length row)
dense_within row = AllTerms-imp (λ t. t < 0 + length row) (λ t. t < length row) (dense row) (λ t h. omega arith) (within_from row 0)

pub rows_are_sums_lem : RowsAreSums
rows_are_sums_lem row = (coef-dense row, dense_within row)
