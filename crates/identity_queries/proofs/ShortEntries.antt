-- Entries of small arity are writable.
use Rattle.std.proofs.Common.{◌≡◌, ℕ, zero, suc, ◌+◌, ◌-◌, ◌<◌, ◌≤◌, List, [], ◌∷◌, length, get_or, map, refl, sym, ap, ◌∙◌, subst, arith}
use Rattle.std.specs.List.{All, AllByRecursion}
use Rattle.std.proofs.lemmas.List.{length-map}
use Rattle.std.proofs.lemmas.List.Elements.{All-from_recursion, recursion_from_All}
use Rattle.labelled_trees.specs.Trees.{Tree}
use Rattle.labelled_trees.specs.Meaning.{tree_of}
use Rattle.labelled_trees.proofs.Counts.{leaf_count-labelled}
use Rattle.operad_ideals.specs.Laws.{arity}
use Rattle.symmetric_trees.specs.Generators.{parts_at}
use Rattle.symmetric_trees.specs.Trees.{IsLabelled}
use Rattle.symmetric_trees.specs.declared.generators.Generator.{Generator}
use Rattle.symmetric_sums.specs.Instances.{IsValidInstance, rule_element, sum_at}
use Rattle.symmetric_sums.specs.Terms.{terms_of}
use Rattle.symmetric_sums.specs.declared.instance.Instance.{Instance}
use Rattle.symmetric_sums.specs.declared.instance.Rule.{Rule}
use Rattle.symmetric_sums.specs.declared.instance.Rule.TheVariants.{Rel, Swap, Step as StepRule}
use Rattle.symmetric_sums.specs.declared.term.Term.{Term}
use Rattle.presentation_text.specs.PrintedElements.{IsWrittenTerm}
use Rattle.certificate_text.specs.Plain.{plain_use}
use Rattle.certificate_text.specs.UseText.{greatest_cited}
use Rattle.certificate_text.specs.Writable.{IsCited, IsWrittenSum, IsWritableUse}
use Rattle.cofactor_log.specs.Logs.{IsElementOver}
use Rattle.symmetric_sums.specs.Uses.{CitesElement, IsGoodUse}
use Rattle.cofactor_log.specs.declared.entry.Entry.{Entry}
use Rattle.cofactor_log.proofs.Founded.{numbered_within}
use Rattle.identity_queries.specs.Short.{ShortEntriesAreWritable}
use Rattle.presentation_text.proofs.NestedTrees.{nested_less}
use Rattle.presentation_text.proofs.ShortTrees.{context_demanded, inputs_demanded}

-- a sum that has terms is one of the list
found : (P : List Term → Type 0) (sums : List (List Term)) (k : ℕ) → AllByRecursion P sums → (sum_at sums k ≡ [] → ⊥) → (sum : List Term) × P sum × (sum_at sums k ≡ terms_of sum)
found P [] k h some = absurd (some refl)
found P (x ∷ sums) zero h some = absurd (some refl)
found P (x ∷ sums) (suc zero) h some = (x, h.0, refl)
found P (x ∷ sums) (suc (suc k)) h some = found P sums (suc k) h.1 some

module _ (p : ℕ) (generators : List Generator) (rels earlier : List (List Term)) (few_rels : length rels ≤ greatest_cited) (few_earlier : length earlier ≤ greatest_cited)
    (rels_are : All (IsElementOver p generators) rels) (earlier_are : All (IsElementOver p generators) earlier) where
  -- what is cited is an element with terms, by a number that can be read
  pub record IsCitedElement (rule : Rule) : Type 0 where
    pub sum : List Term
    pub element : IsElementOver p generators sum
    pub is : rule_element p generators rels earlier rule ≡ terms_of sum
    pub cited : IsCited rule

  cited_element : (rule : Rule) → CitesElement rule → (rule_element p generators rels earlier rule ≡ [] → ⊥) → IsCitedElement rule
  cited_element (Rel k) c some =
      let f = found (IsElementOver p generators) rels k (recursion_from_All (IsElementOver p generators) rels rels_are) some in
      let w = numbered_within rels k some in
      record { sum = f.0; element = f.1; is = f.2; cited = omega (arith, w, few_rels) }
  cited_element (Swap g at) c some = absurd c
  cited_element (StepRule k) c some =
      let f = found (IsElementOver p generators) earlier k (recursion_from_All (IsElementOver p generators) earlier earlier_are) some in
      let w = numbered_within earlier k some in
      record { sum = f.0; element = f.1; is = f.2; cited = omega (arith, w, few_earlier) }

  around : (n : ℕ) → n ≤ 9 → (item : Instance) → item.coef < p → IsCited item.rule → (sum : List Term) → IsElementOver p generators sum → IsValidInstance generators (terms_of sum) n item → IsWritableUse p generators (plain_use item)
  around n short item coef cited [] element valid = absurd (valid.has_terms refl)
  around n short item coef cited (x ∷ sum) element valid =
      let own : IsLabelled generators element.labelled.0 (tree_of x.tree) = element.labelled.1 0 x (omega arith) in
      let size = leaf_count-labelled (arity (parts_at generators)) element.labelled.0 (tree_of x.tree) own in
      let long : length (map tree_of item.inputs) ≡ element.labelled.0 = length-map item.inputs tree_of ∙ valid.as_many ∙ size in
      record {
        coef = coef;
        rule = cited;
        context = context_demanded generators element.labelled.0 n short (tree_of item.context) (map tree_of item.inputs) (tree_of x.tree) valid.is_context long own valid.labelled.0;
        inputs = inputs_demanded generators element.labelled.0 n short (tree_of item.context) (map tree_of item.inputs) (tree_of x.tree) valid.is_context long own valid.labelled.0;
      }

  use_writable : (n : ℕ) → n ≤ 9 → (item : Instance) → item.coef < p → IsGoodUse p generators rels earlier n item → IsWritableUse p generators (plain_use item)
  use_writable n short item coef good =
      let c = cited_element item.rule good.cites good.valid.has_terms in
      around n short item coef c.cited c.sum c.element (subst (λ e. IsValidInstance generators e n item) c.is good.valid)

  pub uses_writable : (n : ℕ) → n ≤ 9 → (uses : List Instance) → AllByRecursion (λ item. item.coef < p) uses → AllByRecursion (IsGoodUse p generators rels earlier n) uses
      → AllByRecursion (IsWritableUse p generators) (map plain_use uses)
  uses_writable n short [] coefs good = tt
  uses_writable n short (x ∷ uses) coefs good = (use_writable n short x coefs.0 good.0, uses_writable n short uses coefs.1 good.1)

terms_said : (p : ℕ) (generators : List Generator) (n : ℕ) → n ≤ 9 → (terms : List Term) → AllByRecursion (λ (t : Term). 0 < t.coef) terms → AllByRecursion (λ (t : Term). t.coef < p) terms
    → AllByRecursion (λ (t : Term). IsLabelled generators n (tree_of t.tree)) terms → AllByRecursion (IsWrittenTerm p generators n) (terms_of terms)
terms_said p generators n short [] a b c = tt
terms_said p generators n short (x ∷ terms) a b c =
    let deep = nested_less (arity (parts_at generators)) (tree_of x.tree) c.0.fits in
    let size = leaf_count-labelled (arity (parts_at generators)) n (tree_of x.tree) c.0 in (
      record { nonzero = a.0; residue = b.0; tree = record { labelled = c.0; narrow = short; shallow = omega (arith, deep, size, short) } },
      terms_said p generators n short terms a.1 b.1 c.1,
    )

pub short_law : ShortEntriesAreWritable
short_law p generators rels earlier entry few_rels few_earlier rels_are earlier_are element coefs s = record {
  element = (
    s.arity,
    All-from_recursion (IsWrittenTerm p generators s.arity) (terms_of entry.element)
        (terms_said p generators s.arity s.at_most entry.element (recursion_from_All (λ (t : Term). 0 < t.coef) entry.element element.nonzero)
        (recursion_from_All (λ (t : Term). t.coef < p) entry.element element.fits.residues)
        (recursion_from_All (λ (t : Term). IsLabelled generators s.arity (tree_of t.tree)) entry.element s.element)),
  );
  uses = All-from_recursion (IsWritableUse p generators) (map plain_use entry.uses)
      (uses_writable p generators rels earlier few_rels few_earlier rels_are earlier_are s.arity s.at_most entry.uses
      (recursion_from_All (λ (item : Instance). item.coef < p) entry.uses coefs) (recursion_from_All (IsGoodUse p generators rels earlier s.arity) entry.uses s.uses));
}
