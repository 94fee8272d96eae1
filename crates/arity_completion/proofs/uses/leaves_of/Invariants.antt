use Rattle.std.proofs.Common.{◌≡◌, map, take}
use Rattle.labelled_trees.specs.Trees.{leaf}
use Rattle.labelled_trees.specs.Meaning.{tree_of}
use Rattle.arity_completion.proofs.uses.leaves_of.Given as goal

abbrev pub invariant-loop-number : goal.invariant-loop-number
invariant-loop-number l = map tree_of l.leaves ≡ map leaf (take l.number-index l.numbers)
