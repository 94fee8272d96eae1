use Rattle.std.proofs.Common.{◌≡◌, ℕ, ◌+◌, ◌-◌, ◌^◌, ◌<◌, min, take}
use Rattle.std.specs.Prelude.{slice_index}
use Rattle.std.specs.List.{sum_by, AllByRecursion}
use Rattle.labelled_trees.specs.Meaning.{tree_of}
use Rattle.labelled_trees.specs.Leaves.{AllLeaves, occurs, leaf_count}
use Rattle.symmetric_trees.proofs.arity.LeafCounts.+add.Given as goal

abbrev pub invariant-loop-input : goal.invariant-loop-input
invariant-loop-input l = record {
  times : (k : ℕ) → k < 256 → min (slice_index l.self.times k) 255 ≡ min (slice_index l.fn.self.times k + sum_by (λ t. occurs k (tree_of t)) (take l.input-index l.input-items)) 255;
  total : min l.self.total (2 ^ 32 - 1) ≡ min (l.fn.self.total + sum_by (λ t. leaf_count (tree_of t)) (take l.input-index l.input-items)) (2 ^ 32 - 1);
  small : AllByRecursion (λ t. AllLeaves (tree_of t) (λ i. i < 256)) (take l.input-index l.input-items);
}
