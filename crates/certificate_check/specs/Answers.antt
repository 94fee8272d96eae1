-- The answers of the checker, each with its cause.
use Rattle.std.specs.Prelude.{ℕ, ◌≡◌, ◌+◌, ◌<◌, ◌⊎◌, ◌++◌, List, [], ◌∷◌, length}
use Rattle.symmetric_trees.specs.Generators.{parts_at}
use Rattle.symmetric_trees.specs.declared.generators.Generator.{Generator}
use Rattle.symmetric_sums.specs.Terms.{terms_of}
use Rattle.operad_ideals.specs.Collected.{HaveOneForm}
use Rattle.symmetric_sums.specs.declared.term.Term.{Term}
use Rattle.symmetric_sums.specs.declared.instance.Rule.{Rule}
use Rattle.symmetric_sums.specs.declared.instance.Rule.TheVariants.{Rel, Swap, Step as StepRule}
use Rattle.symmetric_sums.specs.declared.instance.Instance.{Instance}
use Rattle.certificate_text.specs.declared.block.Step.{Step}
use Rattle.certificate_check.specs.Blocks.{elements_of, StepsHold, IsWanted, BlockHolds}
use Rattle.symmetric_sums.specs.Uses.{AreGoodUses, sum_of}
use Rattle.certificate_check.specs.declared.answer.CheckCause.{CheckCause}
use Rattle.certificate_check.specs.declared.answer.CheckCause.TheVariants.{Ahead, UseUnfit, Differs, NotWanted}
use Rattle.certificate_check.specs.declared.answer.CheckAnswer.{CheckAnswer}
use Rattle.certificate_check.specs.declared.answer.CheckAnswer.TheVariants.{Accepted, Refused}

-- a step is cited whose number is 0 or above that of the earlier steps
abbrev pub IsAhead : ℕ → Rule → Type 0
IsAhead earlier (Rel k) = ⊥
IsAhead earlier (Swap g at) = ⊥
IsAhead earlier (StepRule k) = (k ≡ 0) ⊎ (earlier < k)

-- the cause at the first bad use: those before it are good, and it isn't good with them
abbrev pub IsUseFault : ℕ → List Generator → List (List Term) → List (List Term) → List Instance → Instance → CheckCause → Type 0
IsUseFault p generators rels earlier front item Ahead = AreGoodUses p generators rels earlier front × IsAhead (length earlier) item.rule
IsUseFault p generators rels earlier front item UseUnfit =
    AreGoodUses p generators rels earlier front × (IsAhead (length earlier) item.rule → ⊥) × (AreGoodUses p generators rels earlier (front ++ item ∷ []) → ⊥)
IsUseFault p generators rels earlier front item Differs = ⊥
IsUseFault p generators rels earlier front item NotWanted = ⊥

-- some use is the first bad one, with this cause
abbrev pub HasUseFault : ℕ → List Generator → List (List Term) → List (List Term) → List Instance → CheckCause → Type 0
HasUseFault p generators rels earlier uses cause =
    (front : List Instance) × (item : Instance) × (back : List Instance) × (uses ≡ front ++ item ∷ back) × IsUseFault p generators rels earlier front item cause

-- why a step doesn't hold over the earlier ones
abbrev pub IsStepFault : ℕ → List Generator → List (List Term) → List (List Term) → Step → CheckCause → Type 0
IsStepFault p generators rels earlier step Ahead = HasUseFault p generators rels earlier step.uses Ahead
IsStepFault p generators rels earlier step UseUnfit = HasUseFault p generators rels earlier step.uses UseUnfit
IsStepFault p generators rels earlier step Differs =
    AreGoodUses p generators rels earlier step.uses × (HaveOneForm p (parts_at generators) (terms_of step.element) (sum_of p generators rels earlier step.uses) → ⊥)
IsStepFault p generators rels earlier step NotWanted = ⊥

-- step number k, counted from 1, is the first that doesn't hold, with this cause
abbrev pub IsFirstFault : ℕ → List Generator → List (List Term) → List Step → ℕ → CheckCause → Type 0
IsFirstFault p generators rels steps k cause =
    (front : List Step) × (step : Step) × (back : List Step) × (steps ≡ front ++ step ∷ back) × (k ≡ length front + 1)
    × StepsHold p generators rels [] front × IsStepFault p generators rels (elements_of front) step cause

-- all steps hold, and the last one doesn't give the wanted element
abbrev pub IsLastFault : ℕ → List Generator → List (List Term) → List Term → List Step → ℕ → CheckCause → Type 0
IsLastFault p generators rels want steps k cause =
    (cause ≡ NotWanted) × (k ≡ length steps) × StepsHold p generators rels [] steps × (IsWanted p generators want steps → ⊥)

-- what the checker answers: a block that holds is accepted, and one that is refused doesn't hold
abbrev pub IsBlockVerdict : ℕ → List Generator → List (List Term) → List Term → List Step → CheckAnswer → Type 0
IsBlockVerdict p generators rels want steps Accepted = BlockHolds p generators rels want steps
IsBlockVerdict p generators rels want steps (Refused k cause) =
    (BlockHolds p generators rels want steps → ⊥) × (IsFirstFault p generators rels steps k cause ⊎ IsLastFault p generators rels want steps k cause)
