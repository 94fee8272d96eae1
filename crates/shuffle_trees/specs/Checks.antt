-- What the checks of trees answer.
use Rattle.std.specs.Prelude.{ℕ, ◌≡◌, ◌+◌, ◌<◌, ◌≤◌, List, slice_index}
use Rattle.std.specs.List.{AllByRecursion}
use Rattle.labelled_trees.specs.Trees.{Tree, row}
use Rattle.labelled_trees.specs.Leaves.{AllLeaves, occurs, occurs_row}
use Rattle.shuffle_insertions.specs.ShuffleTrees.{least, IsRising}
use Rattle.shuffle_trees.specs.ValidTrees.{IsWide, IsValid}

-- the counts rose by what stands at the leaves, and none is above 1
pub record AddsLeaves (before after : List ℕ) (t : Tree ℕ) : Type 0 where
  pub counts : (k : ℕ) → k < 256 → slice_index after k ≡ slice_index before k + occurs k t
  pub small : AllLeaves t (λ i. i < 256)
  pub once : (k : ℕ) → slice_index after k ≤ 1

-- a number stands twice, in the tree and what was counted before
abbrev pub IsTwice : List ℕ → Tree ℕ → Type 0
IsTwice before t = ((k : ℕ) → k < 256 → slice_index before k + occurs k t ≤ 1) → ⊥

-- each vertex of t has two or more inputs, the inputs of x rise, and this is its least leaf
pub record IsOrdered (t x : Tree ℕ) (leaf : ℕ) : Type 0 where
  pub wide : IsWide t
  pub rising : IsRising x
  pub is_least : leaf ≡ least x

-- a vertex of t has fewer inputs than two, or the inputs of x don't rise
abbrev pub IsUnordered : Tree ℕ → Tree ℕ → Type 0
IsUnordered t x = IsWide t → IsRising x → ⊥

-- the counts rose by what stands at the leaves of valid inputs, and none is above 1
pub record AddedInputs (before after : List ℕ) (inputs : List (Tree ℕ)) : Type 0 where
  pub counts : (k : ℕ) → k < 256 → slice_index after k ≡ slice_index before k + occurs_row k (row inputs)
  pub valid : AllByRecursion IsValid inputs
  pub once : (k : ℕ) → slice_index after k ≤ 1

-- a number stands twice, in the inputs and what was counted before
abbrev pub AreTwice : List ℕ → List (Tree ℕ) → Type 0
AreTwice before inputs = ((k : ℕ) → k < 256 → slice_index before k + occurs_row k (row inputs) ≤ 1) → ⊥
