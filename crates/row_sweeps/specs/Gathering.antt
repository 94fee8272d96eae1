-- The rest of a row, and what is left of the row behind it.
use Rattle.std.specs.Prelude.{ℕ, ◌<◌, ◌≤◌, List, ◌++◌, length}
use Rattle.std.proofs.Common.{suc}
use Rattle.std.specs.Ordering.{nat_cmp}
use native.Mathlib.Decide.{ℕ_discrete}
use Rattle.modular_sums.specs.Sums.{AllTerms, Same}
use Rattle.modular_sums.specs.Falling.{IsFalling}
use Rattle.modular_sums.specs.PositionRows.{dense}

-- A falling sum modulo suc q on the positions from `end` to below `size`.
pub record IsSumFrom (q end size : ℕ) (rest : List (ℕ × ℕ)) : Type 0 where
  pub falls : IsFalling nat_cmp (suc q) rest
  pub above : AllTerms rest (λ t. end ≤ t)
  pub within : AllTerms rest (λ t. t < size)

-- The falling sum that is the same as the rest and the row.
pub record IsGathered (q : ℕ) (row : List ℕ) (rest all : List (ℕ × ℕ)) : Type 0 where
  pub same : Same ℕ_discrete q (rest ++ dense row) all
  pub falls : IsFalling nat_cmp (suc q) all
  pub within : AllTerms all (λ t. t < length row)
