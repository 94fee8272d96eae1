-- What is done at one position of a row.
use Rattle.std.specs.Prelude.{ℕ, ◌≡◌, ◌≢◌, ◌+◌, ◌-◌, ◌*◌, ◌%◌, Bool, true, false, List, [], ◌∷◌, ◌++◌, slice_index, slice_set, ◌⊎◌}
use Rattle.std.proofs.Common.{suc}
use native.Mathlib.Decide.{ℕ_discrete}
use Rattle.modular_sums.specs.Sums.{coef}
use Rattle.modular_sums.specs.RuleTables.{Table, HasRule, IsRuled, IsRuleTail, IsUnruled}
use Rattle.row_sweeps.specs.Counts.{Count}
use Rattle.row_sweeps.specs.Terms.{pairs}
use Rattle.row_sweeps.specs.declared.row.Term.{Term}

-- where a sweep is: the row, the rest so far, the steps that were logged, and their count with its bound
pub record State : Type 0 where
  pub row : List ℕ
  pub rest : List (ℕ × ℕ)
  pub log : List (ℕ × ℕ)
  pub steps : Count

abbrev pub state : List ℕ → List Term → List Term → Count → State
state row rest log steps = record { row = row; rest = pairs rest; log = pairs log; steps = steps }

-- the term, where it is kept
abbrev pub kept : Bool → List (ℕ × ℕ) → List (ℕ × ℕ)
kept true l = l
kept false l = []

-- the number at the position is 0 modulo suc q, and is taken away
pub record IsNothing (q at : ℕ) (before after : State) : Type 0 where
  pub zero : slice_index before.row at % suc q ≡ 0
  pub row : after.row ≡ slice_set before.row at 0
  pub rest : after.rest ≡ before.rest
  pub log : after.log ≡ before.log
  pub count : after.steps.count ≡ before.steps.count

-- the position has no rule: its residue goes to the rest
pub record IsLeft (q : ℕ) (table : Table) (at : ℕ) (before after : State) : Type 0 where
  pub nonzero : slice_index before.row at % suc q ≢ 0
  pub unruled : IsUnruled table at
  pub row : after.row ≡ slice_set before.row at 0
  pub rest : after.rest ≡ before.rest ++ ((slice_index before.row at % suc q, at) ∷ [])
  pub log : after.log ≡ before.log
  pub count : after.steps.count ≡ before.steps.count

-- a step: the residue times the rule of the position is subtracted
pub record IsCancelled (q : ℕ) (table : Table) (at : ℕ) (keep : Bool) (before after : State) : Type 0 where
  pub nonzero : slice_index before.row at % suc q ≢ 0
  pub tail : List (ℕ × ℕ)
  pub rule : HasRule table at tail
  pub lower : IsRuleTail q at tail
  pub row : (t : ℕ) → slice_index after.row t ≡ slice_index (slice_set before.row at 0) t + (suc q - slice_index before.row at % suc q) * coef ℕ_discrete tail t
  pub rest : after.rest ≡ before.rest
  pub log : after.log ≡ before.log ++ kept keep ((slice_index before.row at % suc q, at) ∷ [])
  pub count : after.steps.count ≡ before.steps.count + 1

-- there are no steps left for the position, which has a rule and now its residue
pub record IsHalted (q : ℕ) (table : Table) (at : ℕ) (before after : State) : Type 0 where
  pub nonzero : slice_index before.row at % suc q ≢ 0
  pub ruled : IsRuled table at
  pub row : after.row ≡ slice_set before.row at (slice_index before.row at % suc q)
  pub rest : after.rest ≡ before.rest
  pub log : after.log ≡ before.log
  pub count : after.steps.count ≡ before.steps.count
  pub full : after.steps.count ≡ after.steps.bound

-- one of these, by whether the sweep goes on
abbrev pub IsVisit : ℕ → Table → ℕ → Bool → State → State → Bool → Type 0
IsVisit q table at keep before after true = IsNothing q at before after ⊎ (IsLeft q table at before after ⊎ IsCancelled q table at keep before after)
IsVisit q table at keep before after false = IsHalted q table at before after
