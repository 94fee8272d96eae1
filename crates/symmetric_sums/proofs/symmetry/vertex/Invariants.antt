use Rattle.std.proofs.Common.{◌≡◌, map}
use Rattle.std.specs.List.{range_with_len}
use Rattle.labelled_trees.specs.Meaning.{tree_of}
use Rattle.labelled_trees.specs.Trees.{leaf}
use Rattle.symmetric_sums.specs.Symmetries.{exchanged}
use Rattle.symmetric_sums.proofs.symmetry.vertex.Given as goal

abbrev pub invariant-loop-before : goal.invariant-loop-before
invariant-loop-before l = map tree_of l.inputs ≡ map (λ n. leaf (exchanged l.one l.other n)) (range_with_len 1 l.before)
