-- What keeps the rule over some entries keeps it over more.
use Rattle.std.proofs.Common.{◌≡◌, ℕ, zero, suc, List, [], ◌∷◌, ◌++◌, length, take, refl, sym, ap, ◌∙◌, subst}
use mathlib.Core.Path.{ap₂}
use Rattle.std.specs.List.{All, AllByRecursion}
use Rattle.std.proofs.lemmas.List.Elements.{All-from_recursion, recursion_from_All}
use Rattle.labelled_trees.specs.Trees.{Tree}
use Rattle.symmetric_trees.specs.Generators.{parts_at}
use Rattle.symmetric_trees.specs.declared.generators.Generator.{Generator}
use Rattle.operad_ideals.specs.Collected.{HaveOneForm}
use Rattle.symmetric_sums.specs.Instances.{IsValidInstance, instance_element, rule_element, sum_at}
use Rattle.symmetric_sums.specs.Terms.{terms_of}
use Rattle.symmetric_sums.specs.declared.instance.Instance.{Instance}
use Rattle.symmetric_sums.specs.declared.instance.Rule.{Rule}
use Rattle.symmetric_sums.specs.declared.instance.Rule.TheVariants.{Rel, Swap, Step}
use Rattle.symmetric_sums.specs.declared.term.Term.{Term}
use Rattle.cofactor_log.specs.Entries.{KeepsRule, elements_of}
use Rattle.symmetric_sums.specs.Uses.{IsGoodUse, cited, sum_of}
use Rattle.cofactor_log.specs.declared.entry.Entry.{Entry}

sum_at-further : (entries : List Entry) (m k : ℕ) → (sum_at (elements_of (take m entries)) k ≡ [] → ⊥) → sum_at (elements_of (take m entries)) k ≡ sum_at (elements_of entries) k
sum_at-further [] zero k some = absurd (some refl)
sum_at-further [] (suc m) k some = absurd (some refl)
sum_at-further (x ∷ entries) zero k some = absurd (some refl)
sum_at-further (x ∷ entries) (suc m) zero some = absurd (some refl)
sum_at-further (x ∷ entries) (suc m) (suc zero) some = refl
sum_at-further (x ∷ entries) (suc m) (suc (suc k)) some = sum_at-further entries m (suc k) some

module _ (p : ℕ) (generators : List Generator) (rels : List (List Term)) (entries : List Entry) (m : ℕ) where
  rule-further : (rule : Rule) → (rule_element p generators rels (elements_of (take m entries)) rule ≡ [] → ⊥)
      → rule_element p generators rels (elements_of (take m entries)) rule ≡ rule_element p generators rels (elements_of entries) rule
  rule-further (Rel k) some = refl
  rule-further (Swap g at) some = refl
  rule-further (Step k) some = sum_at-further entries m k some

  good-further : (n : ℕ) (uses : List Instance) → AllByRecursion (IsGoodUse p generators rels (elements_of (take m entries)) n) uses → AllByRecursion (IsGoodUse p generators rels (elements_of entries) n) uses
  good-further n [] h = tt
  good-further n (x ∷ uses) h = (
    record { cites = h.0.cites; valid = subst (λ e. IsValidInstance generators e n x) (rule-further x.rule h.0.valid.has_terms) h.0.valid },
    good-further n uses h.1,
  )

  sum-further : (n : ℕ) (uses : List Instance) → AllByRecursion (IsGoodUse p generators rels (elements_of (take m entries)) n) uses
      → sum_of p generators rels (elements_of (take m entries)) uses ≡ sum_of p generators rels (elements_of entries) uses
  sum-further n [] h = refl
  sum-further n (x ∷ uses) h = ap₂ (λ (e f : List (ℕ × Tree ℕ)). instance_element p e x ++ f) (rule-further x.rule h.0.valid.has_terms) (sum-further n uses h.1)

  pub kept-further : (entry : Entry) → KeepsRule p generators rels (elements_of (take m entries)) entry → KeepsRule p generators rels (elements_of entries) entry
  kept-further entry h =
      let n = h.uses.0 in
      let good = recursion_from_All (IsGoodUse p generators rels (elements_of (take m entries)) h.uses.0) entry.uses h.uses.1 in
      record {
        element = h.element;
        coefs = h.coefs;
        uses = (h.uses.0, All-from_recursion (IsGoodUse p generators rels (elements_of entries) h.uses.0) entry.uses (good-further h.uses.0 entry.uses good));
        same = subst (HaveOneForm p (parts_at generators) (terms_of entry.element)) (sum-further h.uses.0 entry.uses good) h.same;
      }
