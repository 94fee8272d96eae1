-- The elements of steps that hold are in the ideal.
use Rattle.std.proofs.Common.{◌≡◌, ℕ, ◌+◌, ◌-◌, ◌<◌, List, [], ◌∷◌, ◌++◌, subst, arith}
use Rattle.std.specs.List.{All, AllByRecursion}
use Rattle.std.proofs.lemmas.List.Elements.{All-push, recursion_from_All}
use Rattle.modular_sums.specs.Sums.{AllTerms}
use Rattle.modular_sums.proofs.Sums.{AllTerms-append}
use Rattle.labelled_trees.specs.Trees.{Tree}
use Rattle.operad_ideals.specs.Presentations.{Presentation}
use Rattle.operad_ideals.specs.Ideals.{InIdeal}
use Rattle.operad_ideals.proofs.Ideals.{ideal_zero, ideal-append}
use Rattle.symmetric_trees.specs.Generators.{parts_at}
use Rattle.symmetric_trees.specs.Trees.{IsLabelled}
use Rattle.symmetric_trees.specs.declared.generators.Generator.{Generator}
use Rattle.symmetric_sums.specs.Terms.{terms_of}
use Rattle.operad_ideals.specs.Collected.{HaveOneForm}
use Rattle.symmetric_sums.specs.Instances.{element_arity, instance_element}
use Rattle.symmetric_sums.specs.Membership.{presentation_of, IsElement, IsMember}
use Rattle.symmetric_sums.specs.declared.term.Term.{Term}
use Rattle.symmetric_sums.specs.declared.instance.Instance.{Instance}
use Rattle.symmetric_sums.proofs.Expansions.{element-all}
use Rattle.symmetric_sums.proofs.Members.{sound}
use Rattle.symmetric_sums.proofs.OneForms.{one_form_member}
use Rattle.symmetric_sums.proofs.UseMembers.{uses_labelled, uses_members}
use Rattle.certificate_text.specs.declared.block.Step.{Step}
use Rattle.certificate_check.specs.Blocks.{StepHolds, StepsHold, last_element}
use Rattle.symmetric_sums.specs.Uses.{cited, IsGoodUse, sum_of}
use Rattle.certificate_check.specs.Soundness.{HeldBlocksAreMembers}

module _ (p : ℕ) (generators : List Generator) (rels : List (List Term)) (positive : 0 < p) (relations : All (λ rel. IsElement generators (terms_of rel)) rels) where
  abbrev whole : Presentation
  whole = presentation_of p generators rels

  -- sums of one form
  one_form : (e f : List (ℕ × Tree ℕ)) (n : ℕ) → IsElement generators e → AllTerms f (IsLabelled generators n) → HaveOneForm p (parts_at generators) e f → InIdeal whole n f → IsMember p generators rels e
  one_form e f n le lf h member = record {
    element = le;
    in_ideal =
        let q : p ≡ p - 1 + 1 = omega (arith, positive) in
        one_form_member whole (sound p generators rels 0 positive relations) (element_arity e) n e f le lf (subst (λ k. HaveOneForm k (parts_at generators) e f) q h) member;
  }

  -- ---- steps

  step_member : (earlier : List (List Term)) (step : Step) → All (λ step. IsMember p generators rels (terms_of step)) earlier → IsElement generators (terms_of step.element) → StepHolds p generators rels earlier step
      → IsMember p generators rels (terms_of step.element)
  step_member earlier step members element h =
      let good = recursion_from_All (IsGoodUse p generators rels earlier h.uses.0) step.uses h.uses.1 in
      one_form (terms_of step.element) (sum_of p generators rels earlier step.uses) h.uses.0 element (uses_labelled p generators rels positive relations earlier h.uses.0 step.uses good) h.same (uses_members p generators rels positive relations earlier h.uses.0 step.uses members good)

  last_member : (earlier : List (List Term)) (steps : List Step) → All (λ step. IsMember p generators rels (terms_of step)) earlier → AllByRecursion (λ step. IsElement generators (terms_of step.element)) steps
      → StepsHold p generators rels earlier steps → IsMember p generators rels (last_element steps)
  last_member earlier [] members elements h = record { element = tt; in_ideal = ideal_zero whole 0 }
  last_member earlier (step ∷ []) members elements h = step_member earlier step members elements.0 h.0
  last_member earlier (step ∷ (next ∷ steps)) members elements h =
      last_member (earlier ++ step.element ∷ []) (next ∷ steps)
      (All-push (λ (e : List Term). IsMember p generators rels (terms_of e)) earlier step.element members (step_member earlier step members elements.0 h.0)) elements.1 h.1

pub held_blocks : HeldBlocksAreMembers
held_blocks p generators rels want steps positive elements h =
    let last = last_member p generators rels positive elements.rels_are [] steps (λ k d l. absurd (omega (arith, l))) (recursion_from_All (λ step. IsElement generators (terms_of step.element)) steps elements.steps_are) h.steps_hold in
    (one_form p generators rels positive elements.rels_are (terms_of want) (last_element steps) (element_arity (last_element steps)) elements.want_is last.element h.wanted last.in_ideal).in_ideal
