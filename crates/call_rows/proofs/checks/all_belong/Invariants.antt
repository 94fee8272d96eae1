use Rattle.std.proofs.Common.{take}
use Rattle.std.specs.List.{All}
use Rattle.labelled_trees.specs.Labelled.{Fits}
use Rattle.shuffle_trees.specs.LabelLists.{arity_in}
use Rattle.call_rows.proofs.checks.all_belong.Given as goal

abbrev pub invariant-loop-tree : goal.invariant-loop-tree
invariant-loop-tree l = All (Fits (arity_in l.labels)) (take l.tree-index l.trees)
