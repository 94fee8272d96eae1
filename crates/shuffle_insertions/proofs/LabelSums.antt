-- Shuffle trees as numbered trees: their leaves, counts and sums.
use Rattle.std.proofs.Common.{◌≡◌, ℕ, ◌≤◌}
use Rattle.labelled_trees.specs.Trees.{Tree}
use Rattle.labelled_trees.specs.Leaves.{sum_leaves, occurs}
use Rattle.labelled_trees.specs.Labelled.{IsNumbered}
use Rattle.labelled_trees.proofs.Numbered.{numbered_once, numbered_counts, numbered_sums}
use Rattle.shuffle_insertions.specs.ShuffleTrees.{IsShuffle}

pub numbered_of_shuffle : {n : ℕ} {t : Tree ℕ} → IsShuffle n t → IsNumbered n t
numbered_of_shuffle h = record { each = h.each; only = h.only }

-- no number stands twice
pub once_of : (n : ℕ) (x : Tree ℕ) → IsShuffle n x → (j : ℕ) → occurs j x ≤ 1
once_of n x h = numbered_once (numbered_of_shuffle h)

-- shuffle trees of one arity have each number equally often, and the same sums over their leaves
pub same_counts : (k : ℕ) (x y : Tree ℕ) → IsShuffle k x → IsShuffle k y → (i : ℕ) → occurs i x ≡ occurs i y
same_counts k x y hx hy = numbered_counts (numbered_of_shuffle hx) (numbered_of_shuffle hy)

pub same_sums : (k : ℕ) (x y : Tree ℕ) → IsShuffle k x → IsShuffle k y → (h : ℕ → ℕ) → sum_leaves x h ≡ sum_leaves y h
same_sums k x y hx hy = numbered_sums (numbered_of_shuffle hx) (numbered_of_shuffle hy)
