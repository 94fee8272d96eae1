-- Steps that hold, and the first that doesn't.
use Rattle.std.proofs.Common.{◌≡◌, ℕ, suc, ◌+◌, ◌-◌, ◌<◌, ◌⊎◌, inl, inr, List, [], ◌∷◌, ◌++◌, length, take, drop, get_or, refl, ap, sym, ◌∙◌, subst, arith, append-nil, append_assoc, length-take}
use Rattle.std.specs.Prelude.{Err}
use Rattle.std.specs.List.{All}
use Rattle.symmetric_trees.specs.declared.generators.Generator.{Generator}
use Rattle.symmetric_sums.specs.Terms.{terms_of}
use Rattle.symmetric_sums.specs.declared.term.Term.{Term}
use Rattle.symmetric_sums.specs.declared.instance.Instance.{Instance}
use Rattle.symmetric_sums.proofs.Numberings.{all-left, all-right}
use Rattle.certificate_text.specs.declared.block.Step.{Step}
use Rattle.certificate_check.specs.Blocks.{elements_of, StepHolds, StepsHold, last_element, IsWanted, BlockHolds}
use Rattle.symmetric_sums.specs.Uses.{IsGoodUse, AreGoodUses}
use Rattle.certificate_check.specs.Answers.{HasUseFault, IsStepFault, IsFirstFault, IsLastFault, IsBlockVerdict}
use Rattle.certificate_check.specs.Checking.{AreUsed, IsChecked, IsRefusal}
use Rattle.certificate_check.specs.declared.answer.CheckCause.{CheckCause}
use Rattle.certificate_check.specs.declared.answer.CheckCause.TheVariants.{Ahead, UseUnfit, Differs, NotWanted}
use Rattle.certificate_check.specs.declared.answer.CheckAnswer.{CheckAnswer}
use Rattle.certificate_check.specs.declared.answer.CheckAnswer.TheVariants.{Accepted, Refused}
use Rattle.certificate_check.specs.declared.uses.Fault.{Fault}
use Rattle.certificate_check.specs.declared.uses.Fault.TheVariants.{Cause, NoMemory as OutOfMemory}
use Rattle.certificate_check.proofs.GoodUses.{good_not_ahead, split-at, taken}

module _ (p : ℕ) (generators : List Generator) (rels : List (List Term)) where
  -- ---- one step

  good_part : (earlier : List (List Term)) (uses front back : List Instance) (item : Instance) → uses ≡ front ++ item ∷ back → AreGoodUses p generators rels earlier uses → AreGoodUses p generators rels earlier (front ++ item ∷ [])
  good_part earlier uses front back item e g = (
    g.0,
    all-left (IsGoodUse p generators rels earlier g.0) (front ++ item ∷ []) back
        (subst (All (IsGoodUse p generators rels earlier g.0)) (e ∙ sym (append_assoc front (item ∷ []) back)) g.1),
  )

  -- a step with a fault doesn't hold
  pub fault_fails : (earlier : List (List Term)) (step : Step) (cause : CheckCause) → IsStepFault p generators rels earlier step cause → StepHolds p generators rels earlier step → ⊥
  fault_fails earlier step Ahead f h =
      let g = good_part earlier step.uses f.0 f.2 f.1 f.3 h.uses in
      good_not_ahead p generators rels earlier g.0 f.1 (all-right (IsGoodUse p generators rels earlier g.0) f.0 (f.1 ∷ []) g.1 0 f.1 (omega arith)) f.4.1
  fault_fails earlier step UseUnfit f h = f.4.2 (good_part earlier step.uses f.0 f.2 f.1 f.3 h.uses)
  fault_fails earlier step Differs f h = f.1 h.same
  fault_fails earlier step NotWanted f h = f

  -- a bad use is a fault of its step
  pub use_fault : (earlier : List (List Term)) (step : Step) (cause : CheckCause) → HasUseFault p generators rels earlier step.uses cause → IsStepFault p generators rels earlier step cause
  use_fault earlier step Ahead f = f
  use_fault earlier step UseUnfit f = f
  use_fault earlier step Differs f = absurd f.4
  use_fault earlier step NotWanted f = absurd f.4

  -- ---- the steps up to one

  pub holds-one : (earlier : List (List Term)) (front back : List Step) (step : Step) → StepsHold p generators rels earlier (front ++ step ∷ back) → StepHolds p generators rels (earlier ++ elements_of front) step
  holds-one earlier [] back step h = subst (λ es. StepHolds p generators rels es step) (sym (append-nil earlier)) h.0
  holds-one earlier (s ∷ front) back step h =
      subst (λ es. StepHolds p generators rels es step) (append_assoc earlier (s.element ∷ []) (elements_of front)) (holds-one (earlier ++ s.element ∷ []) front back step h.1)

  pub holds-push : (earlier : List (List Term)) (front : List Step) (step : Step) → StepsHold p generators rels earlier front → StepHolds p generators rels (earlier ++ elements_of front) step → StepsHold p generators rels earlier (front ++ step ∷ [])
  holds-push earlier [] step h k = (subst (λ es. StepHolds p generators rels es step) (append-nil earlier) k, tt)
  holds-push earlier (s ∷ front) step h k =
      (h.0, holds-push (earlier ++ s.element ∷ []) front step h.1 (subst (λ es. StepHolds p generators rels es step) (sym (append_assoc earlier (s.element ∷ []) (elements_of front))) k))

  -- the first step with a fault
  pub first-fault : (want : List Term) (steps front back : List Step) (step : Step) (cause : CheckCause) (k : ℕ) → steps ≡ front ++ step ∷ back → k ≡ length front + 1 → StepsHold p generators rels [] front
      → IsStepFault p generators rels (elements_of front) step cause → (BlockHolds p generators rels want steps → ⊥) × (IsFirstFault p generators rels steps k cause ⊎ IsLastFault p generators rels want steps k cause)
  first-fault want steps front back step cause k e is h f = (
    λ b. fault_fails (elements_of front) step cause f (holds-one [] front back step (subst (StepsHold p generators rels []) e b.steps_hold)),
    inl (front, step, back, e, is, h, f),
  )

  pub last-fault : (want : List Term) (steps : List Step) (k : ℕ) → k ≡ length steps → StepsHold p generators rels [] steps → (IsWanted p generators want steps → ⊥)
      → (BlockHolds p generators rels want steps → ⊥) × (IsFirstFault p generators rels steps k NotWanted ⊎ IsLastFault p generators rels want steps k NotWanted)
  last-fault want steps k is h f = (λ b. f b.wanted, inr (refl, is, h, f))

pub last-is : (front : List Step) (last : Step) → last_element (front ++ last ∷ []) ≡ terms_of last.element
last-is [] last = refl
last-is (s ∷ []) last = refl
last-is (s ∷ (t ∷ front)) last = last-is (t ∷ front) last

-- a step whose uses have a bad one
pub failed-uses : (p : ℕ) (generators : List Generator) (rels earlier : List (List Term)) (step : Step) (uses : List Instance) (fault : Fault) → uses ≡ step.uses
    → AreUsed p generators rels earlier uses (Err fault) → IsChecked p generators rels earlier step (Err fault)
failed-uses p generators rels earlier step uses (Cause cause) e h = use_fault p generators rels earlier step cause (subst (λ us. HasUseFault p generators rels earlier us cause) e h)
failed-uses p generators rels earlier step uses OutOfMemory e h = tt

-- the last step by its place
pub last-at : (steps : List Step) (last : Step) → 0 < length steps → last ≡ get_or steps (length steps - 1) last → last_element steps ≡ terms_of last.element
last-at [] last l e = absurd (omega (arith, l))
last-at (s ∷ []) last l e = ap (λ (x : Step). terms_of x.element) (sym e)
last-at (s ∷ (t ∷ steps)) last l e =
    let same : length (t ∷ steps) - 1 ≡ length steps = omega arith in
    last-at (t ∷ steps) last (omega arith) (e ∙ (let here : length (s ∷ (t ∷ steps)) - 1 ≡ suc (length steps) = omega arith in ap (λ j. get_or (s ∷ (t ∷ steps)) j last) here) ∙ ap (λ j. get_or (t ∷ steps) j last) (sym same))

-- the answer at the first fault
pub refused-first : (p : ℕ) (generators : List Generator) (rels : List (List Term)) (want : List Term) (steps : List Step) (i : ℕ) (step : Step) (fault : Fault) (answer : CheckAnswer) → i < length steps
    → step ≡ get_or steps i step → StepsHold p generators rels [] (take i steps) → IsChecked p generators rels (elements_of (take i steps)) step (Err fault) → IsRefusal (i + 1) fault answer
    → IsBlockVerdict p generators rels want steps answer
refused-first p generators rels want steps i step fault Accepted l e h f r = absurd r
refused-first p generators rels want steps i step fault (Refused k cause) l e h f r =
    let n : length (take i steps) ≡ i = omega (arith, length-take i steps, l) in
    let here : k ≡ length (take i steps) + 1 = r.0 ∙ ap (λ m. m + 1) (sym n) in
    first-fault p generators rels want steps (take i steps) (drop (i + 1) steps) step cause k (split-at steps i step l e) here h (subst (λ x. IsChecked p generators rels (elements_of (take i steps)) step (Err x)) r.1 f)

-- one more step that holds
pub hold-more : (p : ℕ) (generators : List Generator) (rels : List (List Term)) (steps : List Step) (i : ℕ) (step : Step) → i < length steps → step ≡ get_or steps i step
    → StepsHold p generators rels [] (take i steps) → StepHolds p generators rels (elements_of (take i steps)) step → StepsHold p generators rels [] (take (i + 1) steps)
hold-more p generators rels steps i step l e h k = subst (StepsHold p generators rels []) (sym (taken steps i step l e)) (holds-push p generators rels [] (take i steps) step h k)
