use Rattle.std.proofs.Common.{take}
use Rattle.std.specs.List.{AllByRecursion}
use Rattle.labelled_trees.specs.Labelled.{Fits}
use Rattle.labelled_trees.specs.Meaning.{tree_of}
use Rattle.shuffle_trees.specs.LabelLists.{arity_in}
use Rattle.rows.proofs.belonging.+belongs.Given as goal

abbrev pub decreases-belongs : goal.decreases-belongs
decreases-belongs l = goal.size-belongs l

abbrev pub invariant-loop-input : goal.invariant-loop-input
invariant-loop-input l = AllByRecursion (λ t. Fits (arity_in l.labels) (tree_of t)) (take l.input-index l.input-items)
