use Rattle.std.proofs.Common.{◌≡◌, ℕ, ◌<◌}
use Rattle.labelled_trees.specs.Meaning.{tree_of}
use Rattle.labelled_trees.specs.Leaves.{occurs}
use Rattle.symmetric_trees.proofs.arity.numbered.Given as goal

abbrev pub invariant-loop-label : goal.invariant-loop-label
invariant-loop-label l = (i : ℕ) → 0 < i → i < l.label → occurs i (tree_of l.tree) ≡ 1
