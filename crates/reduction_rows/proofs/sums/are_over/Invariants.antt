use Rattle.std.proofs.Common.{◌<◌, ℕ, take}
use Rattle.std.specs.List.{All}
use Rattle.labelled_trees.specs.Trees.{Tree}
use Rattle.shuffle_insertions.specs.ShuffleTrees.{IsShuffleTree}
use Rattle.shuffle_trees.specs.LabelLists.{arity_in}
use Rattle.reduction_rows.proofs.sums.are_over.Given as goal

abbrev pub invariant-loop-term : goal.invariant-loop-term
invariant-loop-term l = All (λ (x : ℕ × Tree ℕ). (x.0 < l.prime) × IsShuffleTree (arity_in l.labels) l.arity x.1) (take l.term-index l.terms)
