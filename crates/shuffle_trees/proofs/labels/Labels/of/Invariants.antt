use Rattle.std.proofs.Common.{◌≡◌, ◌++◌, drop}
use Rattle.shuffle_trees.specs.LabelLists.{labels_of_kinds}
use Rattle.shuffle_trees.proofs.labels.Labels.of.Given as goal

abbrev pub invariant-loop-kind : goal.invariant-loop-kind
invariant-loop-kind l = l.arities ++ labels_of_kinds (drop l.kind-index l.kinds) ≡ labels_of_kinds l.kinds
