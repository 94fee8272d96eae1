-- Instances of relations, of symmetry rules and of members are members.
use Rattle.std.proofs.Common.{◌≡◌, ℕ, zero, suc, ◌<◌, List, [], ◌∷◌, map, refl, ap, sym, ◌∙◌, subst, arith, inl, inr}
use Rattle.std.specs.List.{All, AllByRecursion}
use Rattle.std.proofs.lemmas.List.Elements.{recursion_from_All}
use Rattle.modular_sums.specs.Lists.{Mem}
use Rattle.modular_sums.specs.Sums.{scale, moved, AllTerms}
use Rattle.modular_sums.proofs.Images.{moved_ext}
use Rattle.labelled_trees.specs.Trees.{Tree, graft}
use Rattle.labelled_trees.specs.Contexts.{fill}
use Rattle.labelled_trees.specs.Insertions.{IsContext, put, item}
use Rattle.labelled_trees.specs.Leaves.{occurs}
use Rattle.labelled_trees.specs.Meaning.{tree_of}
use Rattle.labelled_trees.proofs.Holes.{hole_at}
use Rattle.labelled_trees.proofs.Insertions.{put-fill}
use Rattle.operad_ideals.specs.Presentations.{Relation, Presentation, IsSound}
use Rattle.operad_ideals.specs.Ideals.{element, InIdeal}
use Rattle.operad_ideals.specs.HoleInstances.{InHoleIdeal}
use Rattle.operad_ideals.proofs.Ideals.{ideal_one, ideal-scale, ideal-same}
use Rattle.operad_ideals.proofs.HoleInstances.{ideals_are_one}
use Rattle.symmetric_trees.specs.Trees.{IsLabelled}
use Rattle.symmetric_trees.specs.declared.generators.Generator.{Generator}
use Rattle.symmetric_sums.specs.Terms.{terms_of}
use Rattle.symmetric_sums.specs.Instances.{sum_at, rule_element, element_arity, in_place, IsValidInstance, instance_element}
use Rattle.symmetric_sums.specs.Membership.{relation_of, presentation_of, IsElement, IsMember, InstancesAreMembers}
use Rattle.symmetric_sums.specs.declared.term.Term.{Term}
use Rattle.symmetric_sums.specs.declared.instance.Rule as program_rule
use Rattle.symmetric_sums.specs.declared.instance.Rule.TheVariants.{Rel, Swap, Step}
use Rattle.symmetric_sums.specs.declared.instance.Instance.{Instance}
use Rattle.symmetric_sums.proofs.PlacedIdeals.{placed_member}
use Rattle.symmetric_sums.proofs.PlainInstances.{element-same, instance_law}
use Rattle.symmetric_sums.specs.PlainInstances.{IsNoStep}

module _ (p : ℕ) (generators : List Generator) (rels : List (List Term)) (n : ℕ) (positive : 0 < p) where
  abbrev whole : Presentation
  whole = presentation_of p generators rels

  -- ---- around a rule

  around_rule : (steps : List (List Term)) (instance : Instance) → IsNoStep instance.rule → IsValidInstance generators (rule_element p generators rels steps instance.rule) n instance
      → InIdeal whole n (instance_element p (rule_element p generators rels steps instance.rule) instance)
  around_rule steps instance o v =
      let e = rule_element p generators rels steps instance.rule in
      let law = instance_law p generators rels steps n instance positive o in
      let plain = law.found v in
      ideal-same whole n (instance_element p e instance) (element whole n plain.0) (law.same_element plain.0 plain.1) (ideal_one whole n plain.0)

  -- ---- around a member

  sound_each : (sums : List (List Term)) → AllByRecursion (λ sum. IsElement generators (terms_of sum)) sums → (r : Relation) → Mem r (map relation_of sums) → AllTerms r.terms (IsLabelled generators r.arity)
  sound_each [] h r m = absurd m
  sound_each (x ∷ xs) h r (inl e) = subst (λ z. AllTerms z.terms (IsLabelled generators z.arity)) (sym e) h.0
  sound_each (x ∷ xs) h r (inr m) = sound_each xs h.1 r m

  pub sound : All (λ rel. IsElement generators (terms_of rel)) rels → IsSound whole
  sound h = sound_each rels (recursion_from_All (λ rel. IsElement generators (terms_of rel)) rels h)

  around_member : All (λ rel. IsElement generators (terms_of rel)) rels → (e : List (ℕ × Tree ℕ)) (instance : Instance) → IsMember p generators rels e → IsValidInstance generators e n instance
      → InIdeal whole n (instance_element p e instance)
  around_member relations [] instance member v = absurd (v.has_terms refl)
  around_member relations (x ∷ e) instance member v =
      let s = hole_at 0 (tree_of instance.context) (let o = v.is_context in omega (arith, o)) in
      let once : occurs 0 (fill s.around (Rattle.labelled_trees.specs.Trees.leaf 0)) ≡ 1 = subst IsContext s.is v.is_context in
      let inputs : ℕ → Tree ℕ = item (map tree_of instance.inputs) in
      let same : (y : Tree ℕ) → fill s.around (graft y inputs) ≡ in_place instance y = λ y. sym (ap (λ c. put c (graft y inputs)) s.is ∙ put-fill s.around (graft y inputs) (omega (arith, once))) in
      let m = element_arity (x ∷ e) in
      let large : IsLabelled generators n (fill s.around (graft x.1 inputs)) = subst (IsLabelled generators n) (sym (same x.1)) v.labelled.0 in
      let sound_here = sound relations in
      let hole : InHoleIdeal whole n (moved (λ y. fill s.around (graft y inputs)) (x ∷ e)) =
      placed_member whole m n s.around inputs x.1 member.element.0 large (x ∷ e) ((ideals_are_one whole m (x ∷ e) sound_here).0 member.in_ideal) in
      let filled : InIdeal whole n (moved (λ y. fill s.around (graft y inputs)) (x ∷ e)) = (ideals_are_one whole n (moved (λ y. fill s.around (graft y inputs)) (x ∷ e)) sound_here).1 hole in
      let in_place_member : InIdeal whole n (moved (in_place instance) (x ∷ e)) = subst (InIdeal whole n) (moved_ext (λ y. fill s.around (graft y inputs)) (in_place instance) (x ∷ e) same) filled in
      ideal-same whole n (instance_element p (x ∷ e) instance) (scale instance.coef (moved (in_place instance) (x ∷ e))) (element-same p positive (x ∷ e) instance)
      (ideal-scale whole n instance.coef (moved (in_place instance) (x ∷ e)) in_place_member)

  step_at : (steps : List (List Term)) (k : ℕ) → (sum_at steps k ≡ [] → ⊥) → AllByRecursion (λ step. IsMember p generators rels (terms_of step)) steps → IsMember p generators rels (sum_at steps k)
  step_at [] k h all = absurd (h refl)
  step_at (x ∷ xs) zero h all = absurd (h refl)
  step_at (x ∷ xs) (suc zero) h all = all.0
  step_at (x ∷ xs) (suc (suc k)) h all = step_at xs (suc k) h all.1

  by_rule : (steps : List (List Term)) (instance : Instance) → All (λ rel. IsElement generators (terms_of rel)) rels → All (λ step. IsMember p generators rels (terms_of step)) steps → (rule : program_rule.Rule) → instance.rule ≡ rule
      → IsValidInstance generators (rule_element p generators rels steps instance.rule) n instance → InIdeal whole n (instance_element p (rule_element p generators rels steps instance.rule) instance)
  by_rule steps instance relations members (Rel k) is v = around_rule steps instance (subst IsNoStep (sym is) tt) v
  by_rule steps instance relations members (Swap g at) is v = around_rule steps instance (subst IsNoStep (sym is) tt) v
  by_rule steps instance relations members (Step k) is v =
      let step : rule_element p generators rels steps instance.rule ≡ sum_at steps k = ap (rule_element p generators rels steps) is in
      let w : IsValidInstance generators (sum_at steps k) n instance = subst (λ e. IsValidInstance generators e n instance) step v in
      subst (λ e. InIdeal whole n (instance_element p e instance)) (sym step)
      (around_member relations (sum_at steps k) instance (step_at steps k w.has_terms (recursion_from_All (λ step. IsMember p generators rels (terms_of step)) steps members)) w)

pub instances_in_ideal : InstancesAreMembers
instances_in_ideal p generators rels steps n instance positive relations members v = by_rule p generators rels n positive steps instance relations members instance.rule refl v
