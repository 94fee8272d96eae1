use Rattle.std.proofs.Common.{◌<◌, ℕ}
use Rattle.std.specs.List.{All}
use Rattle.modular_sums.specs.Sums.{AllTerms}
use Rattle.labelled_trees.specs.Trees.{Tree}
use Rattle.shuffle_insertions.specs.ShuffleTrees.{IsShuffleTree}
use Rattle.shuffle_transfer.specs.Labels.{inputs_of}
use Rattle.symmetric_trees.specs.Generators.{generators_of}
use Rattle.rows.proofs.elements.shuffle_terms.Given as goal

abbrev pub invariant-loop-term : goal.invariant-loop-term
invariant-loop-term l = record {
  residues : All (λ (x : ℕ × Tree ℕ). (0 < x.0) × (x.0 < l.document.field)) l.terms;
  trees : AllTerms l.terms (IsShuffleTree (inputs_of (generators_of l.document.gens)) l.arity);
}
