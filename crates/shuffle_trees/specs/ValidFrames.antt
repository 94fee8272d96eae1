-- What each frame of the program keeps.
use Rattle.std.specs.Prelude.{ℕ, ◌+◌, ◌<◌, ◌≤◌, List, length}
use Rattle.labelled_trees.specs.Trees.{Tree, leaf, row}
use Rattle.labelled_trees.specs.Leaves.{occurs, occurs_row}
use Rattle.labelled_trees.specs.Insertions.{IsContext, put}
use Rattle.shuffle_insertions.specs.ShuffleTrees.{least_row, IsRising, IsRisingRow}
use Rattle.shuffle_insertions.specs.Frames.{Frame}
use Rattle.shuffle_trees.specs.ValidTrees.{IsWide, AreWide}

-- the frame of a context, whose leaf 0 is the hole, and inputs
abbrev pub frame_from : Tree ℕ → List (Tree ℕ) → Frame
frame_from hole inputs = record { hole = hole; inputs = inputs }

-- A frame is valid where it has an input, the least leaves of its inputs rise, leaf 0 stands once in its context,
-- no number stands twice in the context and the inputs together, each vertex of the context has two or more inputs,
-- and these stand in ascending order of least leaves, where the hole counts with the least leaf of the first input.
-- The inputs are valid trees, and leaf numbers are below 256.
pub record IsValidFrame (f : Frame) : Type 0 where
  pub has_input : 0 < length f.inputs
  pub inputs_rise : IsRisingRow (row f.inputs)
  pub context : IsContext f.hole
  pub once : (i : ℕ) → occurs i f.hole + occurs_row i (row f.inputs) ≤ 1
  pub wide : IsWide f.hole
  pub rising : IsRising (put f.hole (leaf (least_row (row f.inputs))))
  pub inputs_wide : AreWide (row f.inputs)
  pub small : (i : ℕ) → 0 < occurs i f.hole + occurs_row i (row f.inputs) → i < 256
