-- The steps on the way to the checker's answer.
use Rattle.std.specs.Prelude.{ℕ, ◌≡◌, List, length, Result, Ok, Err}
use Rattle.symmetric_trees.specs.declared.generators.Generator.{Generator}
use Rattle.symmetric_sums.specs.Terms.{terms_of}
use Rattle.symmetric_sums.specs.Instances.{instance_element}
use Rattle.symmetric_sums.specs.declared.term.Term.{Term}
use Rattle.symmetric_sums.specs.declared.expanding.Expanded.{Expanded}
use Rattle.symmetric_sums.specs.declared.expanding.ExpandFail.{ExpandFail}
use Rattle.symmetric_sums.specs.declared.expanding.ExpandFail.TheVariants.{Unfit, NoMemory}
use Rattle.symmetric_sums.specs.declared.instance.Instance.{Instance}
use Rattle.certificate_text.specs.declared.block.Step.{Step}
use Rattle.certificate_check.specs.Blocks.{StepHolds}
use Rattle.symmetric_sums.specs.Uses.{cited, IsGoodUse, AreGoodUses, sum_of}
use Rattle.certificate_check.specs.Answers.{IsAhead, HasUseFault, IsStepFault}
use Rattle.certificate_check.specs.declared.answer.CheckCause.TheVariants.{Ahead, UseUnfit, Differs, NotWanted}
use Rattle.certificate_check.specs.declared.answer.CheckAnswer.{CheckAnswer}
use Rattle.certificate_check.specs.declared.answer.CheckAnswer.TheVariants.{Accepted, Refused}
use Rattle.certificate_check.specs.declared.uses.Fault.{Fault}
use Rattle.certificate_check.specs.declared.uses.Fault.TheVariants.{Cause, NoMemory as OutOfMemory}

-- the fault that a failure to expand a use is
abbrev pub fault_of : ExpandFail → Fault
fault_of Unfit = Cause UseUnfit
fault_of NoMemory = OutOfMemory

-- the element of one use, or why it has none
abbrev pub IsUsed : ℕ → List Generator → List (List Term) → List (List Term) → Instance → Result Expanded Fault → Type 0
IsUsed p generators rels earlier item (Ok expanded) =
    IsGoodUse p generators rels earlier expanded.arity item × (terms_of expanded.sum ≡ instance_element p (cited p generators rels earlier item) item)
IsUsed p generators rels earlier item (Err (Cause Ahead)) = IsAhead (length earlier) item.rule
IsUsed p generators rels earlier item (Err (Cause UseUnfit)) = (IsAhead (length earlier) item.rule → ⊥) × ((n : ℕ) → IsGoodUse p generators rels earlier n item → ⊥)
IsUsed p generators rels earlier item (Err (Cause Differs)) = ⊥
IsUsed p generators rels earlier item (Err (Cause NotWanted)) = ⊥
IsUsed p generators rels earlier item (Err OutOfMemory) = Unit {0}

-- the sum of the uses, or the first bad one
abbrev pub AreUsed : ℕ → List Generator → List (List Term) → List (List Term) → List Instance → Result (List Term) Fault → Type 0
AreUsed p generators rels earlier uses (Ok sum) = AreGoodUses p generators rels earlier uses × (terms_of sum ≡ sum_of p generators rels earlier uses)
AreUsed p generators rels earlier uses (Err (Cause cause)) = HasUseFault p generators rels earlier uses cause
AreUsed p generators rels earlier uses (Err OutOfMemory) = Unit {0}

-- a step holds, or why it doesn't
abbrev pub IsChecked : ℕ → List Generator → List (List Term) → List (List Term) → Step → Result (Unit {0}) Fault → Type 0
IsChecked p generators rels earlier step (Ok done) = StepHolds p generators rels earlier step
IsChecked p generators rels earlier step (Err (Cause cause)) = IsStepFault p generators rels earlier step cause
IsChecked p generators rels earlier step (Err OutOfMemory) = Unit {0}

-- the answer names the step and the fault's cause
abbrev pub IsRefusal : ℕ → Fault → CheckAnswer → Type 0
IsRefusal k fault Accepted = ⊥
IsRefusal k fault (Refused step cause) = (step ≡ k) × (fault ≡ Cause cause)
