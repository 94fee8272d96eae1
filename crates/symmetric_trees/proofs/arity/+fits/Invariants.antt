use Rattle.std.proofs.Common.{take}
use Rattle.std.specs.List.{AllByRecursion}
use Rattle.labelled_trees.specs.Meaning.{tree_of}
use Rattle.symmetric_trees.specs.Trees.{Fits}
use Rattle.symmetric_trees.proofs.arity.+fits.Given as goal

abbrev pub decreases-fits : goal.decreases-fits
decreases-fits l = goal.size-fits l

abbrev pub invariant-loop-input : goal.invariant-loop-input
invariant-loop-input l = AllByRecursion (λ t. Fits l.table (tree_of t)) (take l.input-index l.input-items)
