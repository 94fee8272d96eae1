-- The entry for what a row is after the steps of a reduction.
use Rattle.std.specs.Prelude.{ℕ, ◌++◌, ◌-◌, List}
use Rattle.std.specs.List.{All}
use Rattle.std.specs.declared.cmp.Ordering.{Ordering}
use Rattle.modular_sums.specs.Sums.{scale, Same, AllTerms}
use Rattle.labelled_trees.specs.Trees.{Tree}
use Rattle.labelled_trees.specs.Equality.{tree_discrete}
use Rattle.shuffle_insertions.specs.Orders.{IsTreeOrder}
use Rattle.shuffle_insertions.specs.ShuffleTrees.{IsShuffleTree}
use Rattle.shuffle_bases.specs.Elements.{Element, AreMonic, Insertion}
use Rattle.shuffle_transfer.specs.GroebnerBases.{setting}
use Rattle.shuffle_transfer.specs.Labels.{inputs_of}
use Rattle.symmetric_trees.specs.declared.generators.Generator.{Generator}
use Rattle.symmetric_sums.specs.Membership.{presentation_of}
use Rattle.symmetric_sums.specs.declared.term.Term.{Term}
use Rattle.shuffle_sums.specs.Shelves.{Shelf}
use Rattle.division.specs.Cofactors.{AreOf}
use Rattle.division.specs.declared.cofactor.Cofactor.{Cofactor}
use Rattle.cofactor_log.specs.Entries.{KeepsRule}
use Rattle.cofactor_log.specs.declared.entry.Entry.{Entry}
use Rattle.arity_completion.specs.Trails.{IsStart, all_started, taken, AreEntriesOf}
use Rattle.arity_completion.specs.Uses.{IsElementFor, UsesAddUp}
use Rattle.arity_completion.specs.declared.uses.Start.{Start}
use Rattle.symmetric_trees.specs.Generators.{generators_of}

-- The entry's element is that of the terms. Over each list of monic elements for which the entries with the numbers stand: where the
-- terms, of arity n, are the factor times the starts less what the steps subtract, the entry keeps the rule and its element stands for them.
pub record IsEntryFor (m : ℕ) (generators : List Generator) (rels earlier : List (List Term)) (shelf : Shelf) (numbers : List ℕ) (starts : List Start) (cofactors : List Cofactor) (factor : ℕ)
    (terms : List (ℕ × Tree ℕ)) (entry : Entry) : Type 0 where
  pub element : IsElementFor m generators rels terms entry.element
  pub uses : UsesAddUp m generators rels earlier shelf numbers starts cofactors factor entry.uses
  pub kept : (compare : Tree ℕ → Tree ℕ → Ordering) (elements : List Element) (n : ℕ)
      → IsTreeOrder (inputs_of (generators_of generators)) compare → AreMonic (setting (presentation_of m generators rels) compare elements)
      → AreEntriesOf (presentation_of m generators rels) earlier numbers elements
      → All (IsStart m generators rels earlier n) starts
      → (steps : List (ℕ × Insertion (setting (presentation_of m generators rels) compare elements) n))
      → AreOf (setting (presentation_of m generators rels) compare elements) n shelf steps cofactors
      → AllTerms terms (IsShuffleTree (inputs_of (generators_of generators)) n)
      → Same tree_discrete (m - 1) (scale factor (all_started m generators rels earlier starts ++ taken steps)) terms
      → KeepsRule m generators rels earlier entry
