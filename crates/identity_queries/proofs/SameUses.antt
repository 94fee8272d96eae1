-- Uses with new numbers stand around the same elements.
use Rattle.std.proofs.Common.{◌≡◌, ℕ, List, [], ◌∷◌, ◌++◌, inl, inr, map, refl, sym, subst, ap, ◌∙◌}
use mathlib.Core.Path.{ap₂}
use Rattle.std.specs.List.{All, AllByRecursion}
use Rattle.std.proofs.lemmas.List.Elements.{All-from_recursion, recursion_from_All}
use Rattle.labelled_trees.specs.Trees.{Tree}
use Rattle.symmetric_trees.specs.declared.generators.Generator.{Generator}
use Rattle.symmetric_sums.specs.Instances.{IsValidInstance, instance_element, rule_element, sum_at}
use Rattle.symmetric_sums.specs.declared.instance.Instance.{Instance}
use Rattle.symmetric_sums.specs.declared.instance.Rule.{Rule}
use Rattle.symmetric_sums.specs.declared.instance.Rule.TheVariants.{Rel, Swap, Step as StepRule}
use Rattle.symmetric_sums.specs.declared.term.Term.{Term}
use Rattle.cofactor_log.specs.Resting.{CiteEntry}
use Rattle.symmetric_sums.specs.Uses.{CitesElement, IsGoodUse, AreGoodUses, sum_of}
use Rattle.identity_queries.specs.Renumbering.{renumbered_rule, renumbered_use}

-- the same numbers where it matters
pub same_numbers : (one other : ℕ → ℕ) (uses : List Instance) → ((k : ℕ) → CiteEntry uses k → one k ≡ other k) → map (renumbered_use one) uses ≡ map (renumbered_use other) uses
same_numbers one other [] h = refl
same_numbers one other (x ∷ uses) h =
    ap₂ (λ (rule : Rule) (l : List Instance). record { coef = x.coef; context = x.context; rule = rule; inputs = x.inputs } ∷ l) (same x.rule (λ k e. h k (inl (sym e)))) (same_numbers one other uses (λ k c. h k (inr c)))
  where
    same : (rule : Rule) → ((k : ℕ) → rule ≡ StepRule k → one k ≡ other k) → renumbered_rule one rule ≡ renumbered_rule other rule
    same (Rel k) h = refl
    same (Swap g at) h = refl
    same (StepRule k) h = ap StepRule (h k refl)

module _ (p : ℕ) (generators : List Generator) (rels old new : List (List Term)) (number : ℕ → ℕ) where
  -- what is cited under the new numbers is what was cited
  same_element : (rule : Rule) → ((k : ℕ) → rule ≡ StepRule k → sum_at new (number k) ≡ sum_at old k) → rule_element p generators rels new (renumbered_rule number rule) ≡ rule_element p generators rels old rule
  same_element (Rel k) h = refl
  same_element (Swap g at) h = refl
  same_element (StepRule k) h = h k refl

  cites_element : (rule : Rule) → CitesElement rule → CitesElement (renumbered_rule number rule)
  cites_element (Rel k) h = tt
  cites_element (Swap g at) h = absurd h
  cites_element (StepRule k) h = tt

  good : (n : ℕ) (item : Instance) → ((k : ℕ) → item.rule ≡ StepRule k → sum_at new (number k) ≡ sum_at old k) → IsGoodUse p generators rels old n item
      → IsGoodUse p generators rels new n (renumbered_use number item)
  good n item h g =
      let valid = subst (λ e. IsValidInstance generators e n item) (sym (same_element item.rule h)) g.valid in
      record {
        cites = cites_element item.rule g.cites;
        valid = record { has_terms = valid.has_terms; as_many = valid.as_many; is_context = valid.is_context; no_zero = valid.no_zero; labelled = valid.labelled };
      }

  goods : (n : ℕ) (uses : List Instance) → ((k : ℕ) → CiteEntry uses k → sum_at new (number k) ≡ sum_at old k) → AllByRecursion (IsGoodUse p generators rels old n) uses
      → AllByRecursion (IsGoodUse p generators rels new n) (map (renumbered_use number) uses)
  goods n [] h g = tt
  goods n (x ∷ uses) h g = (good n x (λ k e. h k (inl (sym e))) g.0, goods n uses (λ k c. h k (inr c)) g.1)

  pub all_good : (uses : List Instance) → ((k : ℕ) → CiteEntry uses k → sum_at new (number k) ≡ sum_at old k) → AreGoodUses p generators rels old uses
      → AreGoodUses p generators rels new (map (renumbered_use number) uses)
  all_good uses h g = (
    g.0,
    All-from_recursion (IsGoodUse p generators rels new g.0) (map (renumbered_use number) uses) (goods g.0 uses h (recursion_from_All (IsGoodUse p generators rels old g.0) uses g.1)),
  )

  pub same_sum : (uses : List Instance) → ((k : ℕ) → CiteEntry uses k → sum_at new (number k) ≡ sum_at old k)
      → sum_of p generators rels new (map (renumbered_use number) uses) ≡ sum_of p generators rels old uses
  same_sum [] h = refl
  same_sum (x ∷ uses) h =
      ap₂ (λ (e f : List (ℕ × Tree ℕ)). instance_element p e x ++ f) (same_element x.rule (λ k e. h k (inl (sym e)))) (same_sum uses (λ k c. h k (inr c)))
