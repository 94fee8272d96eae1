-- The entry of the element 0 that uses nothing keeps the rule over any log.
use Rattle.std.proofs.Common.{◌≡◌, [], ℕ, List, refl, sym, subst, arith}
use Rattle.operad_ideals.specs.Parts.{Part}
use Rattle.symmetric_trees.specs.Generators.{parts_at}
use Rattle.symmetric_trees.specs.declared.generators.Generator.{Generator}
use Rattle.operad_ideals.specs.Collected.{IsCollected}
use Rattle.symmetric_sums.specs.declared.term.Term.{Term}
use Rattle.symmetric_sums.specs.declared.instance.Instance.{Instance}
use Rattle.cofactor_log.specs.Entries.{KeepsRule}

nothing_collected : (p : ℕ) (parts : ℕ → List Part) → IsCollected p parts [] []
nothing_collected p parts = record {
  reduced = record { sorted = λ k d l. absurd (omega (arith, l)); ascending = λ i j d l m. absurd (omega (arith, m)); residues = λ k d l. absurd (omega (arith, l)) };
  same = λ t. refl;
}

pub zero_is_kept : (p : ℕ) (generators : List Generator) (rels earlier : List (List Term)) (element : List Term) (uses : List Instance) → element ≡ [] → uses ≡ []
    → KeepsRule p generators rels earlier (record { element = element; uses = uses })
zero_is_kept p generators rels earlier element uses e f =
    subst (λ x. KeepsRule p generators rels earlier (record { element = x; uses = uses })) (sym e)
    (subst (λ x. KeepsRule p generators rels earlier (record { element = []; uses = x })) (sym f)
    (record {
      element = record { residues = λ k d l. absurd (omega (arith, l)); trees = λ k d l. absurd (omega (arith, l)) };
      coefs = λ k d l. absurd (omega (arith, l));
      uses = (0, λ k d l. absurd (omega (arith, l)));
      same = ([], nothing_collected p (parts_at generators), nothing_collected p (parts_at generators));
    }))
