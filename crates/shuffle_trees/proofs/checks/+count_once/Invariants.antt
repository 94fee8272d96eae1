use Rattle.std.proofs.Common.{◌≡◌, ℕ, ◌+◌, ◌<◌, ◌≤◌, take}
use Rattle.std.specs.Prelude.{slice_index}
use Rattle.std.specs.List.{AllByRecursion, sum_by}
use Rattle.labelled_trees.specs.Meaning.{tree_of}
use Rattle.labelled_trees.specs.Leaves.{AllLeaves, occurs}
use Rattle.shuffle_trees.proofs.checks.+count_once.Given as goal

abbrev pub decreases-count_once : goal.decreases-count_once
decreases-count_once l = goal.size-count_once l

abbrev pub invariant-loop-input : goal.invariant-loop-input
invariant-loop-input l = record {
  counts : (k : ℕ) → k < 256 → slice_index l.times k ≡ slice_index l.fn.times k + sum_by (λ t. occurs k (tree_of t)) (take l.input-index l.input-items);
  small : AllByRecursion (λ t. AllLeaves (tree_of t) (λ i. i < 256)) (take l.input-index l.input-items);
  once : (k : ℕ) → slice_index l.times k ≤ 1;
}
