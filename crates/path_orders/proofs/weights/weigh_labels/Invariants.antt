use Rattle.std.proofs.Common.{◌≡◌, take}
use Rattle.std.specs.List.{sum_by}
use Rattle.path_orders.specs.SeenKeys.{weight_in}
use Rattle.path_orders.proofs.weights.weigh_labels.Given as goal

abbrev pub invariant-loop-label : goal.invariant-loop-label
invariant-loop-label l = l.sum ≡ sum_by (weight_in l.weights) (take l.label-index l.labels)
