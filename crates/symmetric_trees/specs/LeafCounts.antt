-- How the leaves of a tree are counted.
use Rattle.std.specs.Prelude.{ℕ, ◌≡◌, ◌+◌, ◌-◌, ◌^◌, ◌<◌, min, slice_index}
use Rattle.labelled_trees.specs.Trees.{Tree}
use Rattle.labelled_trees.specs.Leaves.{AllLeaves, occurs, leaf_count}
use Rattle.symmetric_trees.specs.declared.arity.LeafCounts.{LeafCounts}

-- each count rose by what stands at the leaves, where it isn't at its last value
pub record Counted (before after : LeafCounts) (t : Tree ℕ) : Type 0 where
  pub times : (k : ℕ) → k < 256 → min (slice_index after.times k) 255 ≡ min (slice_index before.times k + occurs k t) 255
  pub total : min after.total (2 ^ 32 - 1) ≡ min (before.total + leaf_count t) (2 ^ 32 - 1)
  pub small : AllLeaves t (λ i. i < 256)
