use Rattle.std.proofs.Common.{◌<◌, ◌≤◌, take}
use Rattle.std.specs.List.{AllByRecursion}
use Rattle.labelled_trees.specs.Leaves.{AllLeaves}
use Rattle.labelled_trees.specs.Meaning.{tree_of}
use Rattle.call_rows.proofs.checks.+is_within.Given as goal

abbrev pub decreases-is_within : goal.decreases-is_within
decreases-is_within l = goal.size-is_within l

abbrev pub invariant-loop-input : goal.invariant-loop-input
invariant-loop-input l = AllByRecursion (λ t. AllLeaves (tree_of t) (λ i. (0 < i) × (i ≤ l.most))) (take l.input-index l.input-items)
