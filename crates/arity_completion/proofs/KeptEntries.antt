-- Entries that keep the rule.
use Rattle.std.proofs.Common.{ℕ, ◌<◌, List, ◌∙◌, arith}
use Rattle.labelled_trees.specs.Trees.{Tree}
use Rattle.symmetric_trees.specs.declared.generators.Generator.{Generator}
use Rattle.symmetric_sums.specs.declared.term.Term.{Term}
use Rattle.shuffle_sums.specs.Shelves.{Shelf}
use Rattle.division.specs.declared.cofactor.Cofactor.{Cofactor}
use Rattle.cofactor_log.specs.declared.entry.Entry.{Entry}
use Rattle.logged_steps.proofs.Kept.{kept_law}
use Rattle.arity_completion.specs.Entries.{IsEntryFor}
use Rattle.arity_completion.specs.Uses.{IsElementFor, UsesAddUp}
use Rattle.arity_completion.specs.declared.uses.Start.{Start}

pub entry_law : (m : ℕ) (generators : List Generator) (rels earlier : List (List Term)) (shelf : Shelf) (numbers : List ℕ) (starts : List Start) (cofactors : List Cofactor) (factor : ℕ) (terms : List (ℕ × Tree ℕ)) (entry : Entry)
    → factor < m → IsElementFor m generators rels terms entry.element → UsesAddUp m generators rels earlier shelf numbers starts cofactors factor entry.uses
    → IsEntryFor m generators rels earlier shelf numbers starts cofactors factor terms entry
entry_law m generators rels earlier shelf numbers starts cofactors factor terms entry small element uses = record {
  element = element;
  uses = uses;
  kept = λ compare elements n order monic entries are steps of valid same.
      let up = uses compare elements n order monic entries are steps of in
      kept_law m generators rels earlier n entry up.parts terms (omega (arith, small)) element.fits up.coefs element.reduced up.stand (element.stands n valid) (λ t. up.same t ∙ same t);
}
