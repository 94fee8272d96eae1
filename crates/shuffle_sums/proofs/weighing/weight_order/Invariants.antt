use Rattle.std.proofs.Common.{◌≡◌, ◌++◌, drop}
use Rattle.shuffle_trees.specs.LabelLists.{labels_of_kinds}
use Rattle.shuffle_sums.proofs.LabelKinds.{weights_and_counts}
use Rattle.shuffle_sums.proofs.weighing.weight_order.Given as goal

abbrev pub invariant-loop-index : goal.invariant-loop-index
invariant-loop-index l = l.label_weights ++ labels_of_kinds (weights_and_counts (drop l.index l.table) (drop l.index l.weights)) ≡ labels_of_kinds (weights_and_counts l.table l.weights)
