-- Blocks made of writable entries are writable.
use Rattle.std.proofs.Common.{◌≡◌, ℕ, zero, suc, ◌-◌, ◌<◌, ◌≤◌, List, [], ◌∷◌, ◌++◌, inl, inr, length, map, refl, sym, subst, ap, ◌∙◌, arith}
use Rattle.std.specs.List.{All, AllByRecursion}
use Rattle.std.proofs.lemmas.List.Elements.{All-from_recursion, recursion_from_All}
use native.Mathlib.Decide.{ℕ_discrete}
use Rattle.symmetric_sums.specs.Terms.{terms_of}
use Rattle.symmetric_sums.specs.declared.instance.Instance.{Instance}
use Rattle.symmetric_sums.specs.declared.instance.Rule.{Rule}
use Rattle.symmetric_sums.specs.declared.instance.Rule.TheVariants.{Rel, Swap, Step as StepRule}
use Rattle.symmetric_sums.specs.declared.term.Term.{Term}
use Rattle.symmetric_trees.specs.declared.generators.Generator.{Generator}
use Rattle.cofactor_log.specs.declared.entry.Entry.{Entry}
use Rattle.presentation_text.specs.PrintedElements.{IsWrittenOver}
use Rattle.certificate_text.specs.Plain.{plain_step, plain_use}
use Rattle.certificate_text.specs.UseText.{greatest_cited}
use Rattle.certificate_text.specs.Writable.{IsCited, IsWritableBlock, IsWritableStep, IsWritableUse}
use Rattle.certificate_text.specs.declared.block.Step.{Step}
use Rattle.identity_queries.specs.Blocks.{IsWritableEntry}
use Rattle.identity_queries.specs.Renumbering.{AreWithin, entry_at, first_or, one_further, place_in, renumbered_rule, renumbered_step, renumbered_use, steps_at}

pub place_small : (l : List ℕ) (k : ℕ) → place_in l k ≤ length l
place_small [] k = omega arith
place_small (x ∷ l) k = go (ℕ_discrete x k) (place_small l k) where
  further : (n : ℕ) → n ≤ length l → one_further n ≤ length (x ∷ l)
  further zero h = omega arith
  further (suc n) h = omega (arith, h)

  go : (d : Dec (x ≡ k)) → place_in l k ≤ length l → first_or d (place_in l k) ≤ length (x ∷ l)
  go (yes e) h = omega arith
  go (no n) h = further (place_in l k) h

module _ (p : ℕ) (generators : List Generator) (number : ℕ → ℕ) (small : (k : ℕ) → number k ≤ greatest_cited) where
  rule_cited : (rule : Rule) → IsCited rule → IsCited (renumbered_rule number rule)
  rule_cited (Rel k) h = h
  rule_cited (Swap g at) h = h
  rule_cited (StepRule k) h = small k

  uses_writable : (uses : List Instance) → AllByRecursion (IsWritableUse p generators) (map plain_use uses) → AllByRecursion (IsWritableUse p generators) (map plain_use (map (renumbered_use number) uses))
  uses_writable [] h = tt
  uses_writable (x ∷ uses) h = (record { coef = h.0.coef; rule = rule_cited x.rule h.0.rule; context = h.0.context; inputs = h.0.inputs }, uses_writable uses h.1)

  entry_writable : (entry : Entry) → IsWritableEntry p generators entry → IsWritableStep p generators (plain_step (renumbered_step number entry))
  entry_writable entry h = record {
    element = h.element;
    uses = All-from_recursion (IsWritableUse p generators) (map plain_use (map (renumbered_use number) entry.uses))
        (uses_writable entry.uses (recursion_from_All (IsWritableUse p generators) (map plain_use entry.uses) h.uses));
  }

  steps_writable : (entries : List Entry) (l : List ℕ) (last : Entry) → All (IsWritableEntry p generators) entries → AreWithin (length entries) l → IsWritableEntry p generators last
      → AllByRecursion (IsWritableStep p generators) (map plain_step (steps_at number entries l ++ renumbered_step number last ∷ []))
  steps_writable entries [] last all within one = (entry_writable last one, tt)
  steps_writable entries (k ∷ l) last all within one =
      let nothing : Entry = record { element = []; uses = [] } in
      let here = within k (inl refl) in
      (entry_writable (entry_at entries k) (all (k - 1) nothing (omega (arith, here))), steps_writable entries l last all (λ j m. within j (inr m)) one)

  pub block_writable : (entries : List Entry) (found : List ℕ) (last : Entry) (want : List Term) (steps : List Step) → want ≡ last.element → steps ≡ steps_at number entries found ++ renumbered_step number last ∷ []
      → All (IsWritableEntry p generators) entries → AreWithin (length entries) found → IsWritableEntry p generators last
      → IsWritableBlock p generators (record { want = terms_of want; steps = map plain_step steps })
  block_writable entries found last want steps e s all within one =
      record {
        want = subst (λ (w : List Term). (n : ℕ) × IsWrittenOver p generators n (terms_of w)) (sym e) one.element;
        steps = subst (λ (l : List Step). All (IsWritableStep p generators) (map plain_step l)) (sym s)
            (All-from_recursion (IsWritableStep p generators) (map plain_step (steps_at number entries found ++ renumbered_step number last ∷ [])) (steps_writable entries found last all within one));
      }
