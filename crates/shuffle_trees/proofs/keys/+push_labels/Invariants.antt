use Rattle.std.specs.Prelude.{◌≡◌, ◌++◌}
use Rattle.std.proofs.Common.{drop}
use Rattle.shuffle_trees.proofs.Walking.{labels_of}
use Rattle.shuffle_trees.proofs.keys.+push_labels.Given as goal

abbrev pub decreases-push_labels : goal.decreases-push_labels
decreases-push_labels l = goal.size-push_labels l

abbrev pub invariant-loop-input : goal.invariant-loop-input
invariant-loop-input l = l.labels ++ labels_of (drop l.input-index l.input-items) ≡ l.initial.labels ++ labels_of l.input-items
