-- Frames with a context and a function: a form that serves the proofs.
use Rattle.std.specs.Prelude.{ℕ, ◌<◌, ◌≤◌}
use Rattle.labelled_trees.specs.Trees.{Tree, graft}
use Rattle.labelled_trees.specs.Contexts.{Ctx, fill}
use Rattle.shuffle_insertions.specs.ShuffleTrees.{least, IsRising}

-- a context and what stands for the leaves of the tree that fills it
pub record Slot : Type 0 where
  pub context : Ctx ℕ
  pub parts : ℕ → Tree ℕ

-- the tree x in the slot, with the parts for its leaves
abbrev pub fill_slot : Slot → Tree ℕ → Tree ℕ
fill_slot f x = fill f.context (graft x f.parts)

-- the parts of 1 to k are rising trees with rising least leaves
pub record PartsRise (k : ℕ) (s : ℕ → Tree ℕ) : Type 0 where
  pub each : (i : ℕ) → 0 < i → i ≤ k → IsRising (s i)
  pub order : (i j : ℕ) → 0 < i → i < j → j ≤ k → least (s i) < least (s j)
