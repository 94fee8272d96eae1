use Rattle.std.proofs.Common.{◌<◌, take}
use Rattle.std.specs.List.{All}
use Rattle.labelled_trees.specs.Meaning.{tree_of}
use Rattle.symmetric_trees.specs.Trees.{Fits}
use Rattle.symmetric_sums.proofs.sum.Sum.fits.Given as goal

abbrev pub invariant-loop-term : goal.invariant-loop-term
invariant-loop-term l = record {
  residues : All (λ term. term.coef < l.field) (take l.term-index l.term-items);
  fit : All (λ term. Fits l.table (tree_of term.tree)) (take l.term-index l.term-items);
}
