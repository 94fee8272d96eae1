-- What a sweep of a row comes to.
use Rattle.std.specs.Prelude.{ℕ, ◌≡◌, ◌<◌, ◌+◌, Bool, List, ◌++◌, Result, Ok, Err, length, slice_index}
use Rattle.std.proofs.Common.{suc}
use Rattle.std.specs.Ordering.{nat_cmp}
use Rattle.modular_sums.specs.Sums.{AllTerms}
use Rattle.modular_sums.specs.Falling.{IsFalling}
use Rattle.modular_sums.specs.RuleTables.{Table}
use Rattle.modular_sums.specs.PositionChains.{HasNoZeroPositions, IsPositionChain, HasNoRuledPosition, HasRuledPosition}
use Rattle.row_sweeps.specs.Counts.{Count}
use Rattle.row_sweeps.specs.Terms.{pairs}
use Rattle.row_sweeps.specs.Visits.{kept}
use Rattle.row_sweeps.specs.declared.sweeping.SweepFail.{SweepFail}
use Rattle.row_sweeps.specs.declared.sweeping.SweepFail.TheVariants.{Spent, NoMemory}

-- A chain leads from the sum e to the sum f, whose positions fall and are those of the table, and which has no zeros;
-- its steps were counted, and logged where `keep` is true.
pub record SweepLeadsTo (q : ℕ) (table : Table) (e f : List (ℕ × ℕ)) (before after : ℕ) (keep : Bool) (log now : List (ℕ × ℕ)) : Type 0 where
  pub steps : List (ℕ × ℕ)
  pub chain : IsPositionChain q table e steps f
  pub counted : after ≡ before + length steps
  pub logged : now ≡ log ++ kept keep steps
  pub falls : IsFalling nat_cmp (suc q) f
  pub within : AllTerms f (λ t. t < length table)
  pub no_zeros : HasNoZeroPositions q f

-- the chain led there and is finished
pub record HasSwept (q : ℕ) (table : Table) (e f : List (ℕ × ℕ)) (before after : Count) (keep : Bool) (log now : List (ℕ × ℕ)) : Type 0 where
  pub reached : SweepLeadsTo q table e f before.count after.count keep log now
  pub finished : HasNoRuledPosition q table f

-- the chain led there and is stopped, with the count at the bound
pub record IsSpentAt (q : ℕ) (table : Table) (e f : List (ℕ × ℕ)) (before after : Count) (keep : Bool) (log now : List (ℕ × ℕ)) : Type 0 where
  pub reached : SweepLeadsTo q table e f before.count after.count keep log now
  pub stopped : HasRuledPosition q table f
  pub full : after.count ≡ after.bound

-- where the steps are spent, the row is where the chain stopped; want of memory says nothing
abbrev pub IsSweepRefusal : ℕ → Table → List (ℕ × ℕ) → Count → Count → Bool → List (ℕ × ℕ) → List (ℕ × ℕ) → SweepFail → Type 0
IsSweepRefusal q table e before after keep log now (Spent row) = IsSpentAt q table e (pairs row.items) before after keep log now
IsSweepRefusal q table e before after keep log now NoMemory = Unit {0}

-- the row is 0, unless memory ran out
abbrev pub IsSweepCleared : {T : Type 0} → Result T SweepFail → List ℕ → Type 0
IsSweepCleared (Ok rest) row = (t : ℕ) → slice_index row t ≡ 0
IsSweepCleared (Err (Spent left)) row = (t : ℕ) → slice_index row t ≡ 0
IsSweepCleared (Err NoMemory) row = Unit {0}
