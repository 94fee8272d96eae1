-- The elements of entries are in the ideal.
use Rattle.std.proofs.Common.{◌≡◌, ℕ, zero, suc, ◌+◌, ◌-◌, ◌<◌, ◌≤◌, List, [], ◌∷◌, ◌++◌, length, get_or, map, take, refl, sym, ap, ◌∙◌, subst, arith}
use Rattle.std.specs.List.{All, AllByRecursion}
use Rattle.std.proofs.lemmas.List.{map-append, take_more}
use Rattle.std.proofs.lemmas.List.Elements.{All-push, recursion_from_All}
use Rattle.modular_sums.specs.Sums.{AllTerms}
use Rattle.modular_sums.proofs.Sums.{AllTerms-append}
use Rattle.labelled_trees.specs.Trees.{Tree}
use Rattle.labelled_trees.specs.Meaning.{tree_of}
use Rattle.labelled_trees.proofs.Counts.{leaf_count-labelled}
use Rattle.operad_ideals.specs.Laws.{arity}
use Rattle.operad_ideals.specs.Ideals.{InIdeal}
use Rattle.operad_ideals.proofs.Ideals.{ideal_zero, ideal-append}
use Rattle.symmetric_trees.specs.Generators.{parts_at}
use Rattle.symmetric_trees.specs.Trees.{IsLabelled}
use Rattle.symmetric_trees.specs.declared.generators.Generator.{Generator}
use Rattle.operad_ideals.specs.Collected.{HaveOneForm}
use Rattle.symmetric_sums.specs.Instances.{element_arity, instance_element}
use Rattle.symmetric_sums.specs.Membership.{IsElement, IsMember, presentation_of}
use Rattle.symmetric_sums.specs.Terms.{terms_of}
use Rattle.symmetric_sums.specs.declared.instance.Instance.{Instance}
use Rattle.symmetric_sums.specs.declared.term.Term.{Term}
use Rattle.symmetric_sums.proofs.Expansions.{element-all}
use Rattle.symmetric_sums.proofs.Members.{sound}
use Rattle.symmetric_sums.proofs.OneForms.{one_form_member}
use Rattle.symmetric_sums.proofs.UseMembers.{uses_labelled, uses_members}
use Rattle.cofactor_log.specs.Entries.{KeepsRule, elements_of}
use Rattle.cofactor_log.specs.Logs.{IsElementOver, IsLog, Logged}
use Rattle.cofactor_log.specs.Members.{EntriesAreMembers}
use Rattle.symmetric_sums.specs.Uses.{IsGoodUse, cited, sum_of}
use Rattle.cofactor_log.specs.declared.entry.Entry.{Entry}

all_terms : (generators : List Generator) (n : ℕ) (terms : List Term) → AllByRecursion (λ (t : Term). IsLabelled generators n (tree_of t.tree)) terms → AllTerms (terms_of terms) (IsLabelled generators n)
all_terms generators n [] h = tt
all_terms generators n (x ∷ terms) h = (h.0, all_terms generators n terms h.1)

pub element_is : (p : ℕ) (generators : List Generator) (terms : List Term) → IsElementOver p generators terms → IsElement generators (terms_of terms)
element_is p generators [] h = tt
element_is p generators (x ∷ terms) h =
    let n = h.labelled.0 in
    let all = all_terms generators h.labelled.0 (x ∷ terms) (recursion_from_All (λ (t : Term). IsLabelled generators h.labelled.0 (tree_of t.tree)) (x ∷ terms) h.labelled.1) in
    subst (λ k. AllTerms (terms_of (x ∷ terms)) (IsLabelled generators k)) (sym (leaf_count-labelled (arity (parts_at generators)) h.labelled.0 (tree_of x.tree) all.0)) all

module _ (p : ℕ) (generators : List Generator) (rels : List (List Term)) (positive : 0 < p) (relations : All (λ rel. IsElement generators (terms_of rel)) rels) where
  -- an entry over members
  entry_member : (earlier : List (List Term)) (entry : Entry) → All (λ step. IsMember p generators rels (terms_of step)) earlier → IsElement generators (terms_of entry.element) → KeepsRule p generators rels earlier entry
      → IsMember p generators rels (terms_of entry.element)
  entry_member earlier entry members element h =
      let n = h.uses.0 in
      let good = recursion_from_All (IsGoodUse p generators rels earlier h.uses.0) entry.uses h.uses.1 in
      let q : p ≡ p - 1 + 1 = omega (arith, positive) in
      record {
        element = element;
        in_ideal = one_form_member (presentation_of p generators rels) (sound p generators rels 0 positive relations) (element_arity (terms_of entry.element)) n (terms_of entry.element)
            (sum_of p generators rels earlier entry.uses) element (uses_labelled p generators rels positive relations earlier n entry.uses good)
            (subst (λ k. HaveOneForm k (parts_at generators) (terms_of entry.element) (sum_of p generators rels earlier entry.uses)) q h.same) (uses_members p generators rels positive relations earlier n entry.uses members good);
      }

pub members_law : EntriesAreMembers
members_law log positive h k d l =
    entry_member log.field log.gens log.rels positive relations (elements_of (take k log.entries)) (get_or log.entries k d) (members k (omega (arith, l))) (element k d l) (h.kept k d l)
  where
    relations : All (λ rel. IsElement log.gens (terms_of rel)) log.rels
    relations j e m = element_is log.field log.gens (get_or log.rels j e) (h.rels_are j e m)

    element : (j : ℕ) (e : Entry) → j < length log.entries → IsElement log.gens (terms_of (get_or log.entries j e).element)
    element j e m = element_is log.field log.gens (get_or log.entries j e).element (h.elements_are j e m)

    members : (j : ℕ) → j ≤ length log.entries → All (λ step. IsMember log.field log.gens log.rels (terms_of step)) (elements_of (take j log.entries))
    members zero m = λ i e o. absurd (omega (arith, o))
    members (suc j) m =
        let nothing : Entry = record { element = []; uses = [] } in
        let here = entry_member log.field log.gens log.rels positive relations (elements_of (take j log.entries)) (get_or log.entries j nothing) (members j (omega (arith, m))) (element j nothing (omega (arith, m)))
        (h.kept j nothing (omega (arith, m))) in
        let s : j + 1 ≡ suc j = omega arith in
        let more : take (suc j) log.entries ≡ take j log.entries ++ get_or log.entries j nothing ∷ [] = ap (λ n. take n log.entries) (sym s) ∙ take_more log.entries j nothing (omega (arith, m)) in
        let all : elements_of (take (suc j) log.entries) ≡ elements_of (take j log.entries) ++ (get_or log.entries j nothing).element ∷ [] =
        ap elements_of more ∙ map-append (λ (x : Entry). x.element) (take j log.entries) (get_or log.entries j nothing ∷ []) in
        subst (All (λ step. IsMember log.field log.gens log.rels (terms_of step))) (sym all)
        (All-push (λ (step : List Term). IsMember log.field log.gens log.rels (terms_of step)) (elements_of (take j log.entries)) (get_or log.entries j nothing).element (members j (omega (arith, m))) here)
