-- Frames and insertion.
use Rattle.std.specs.Prelude.{ℕ, ◌≡◌, List, length}
use Rattle.labelled_trees.specs.Trees.{Tree, graft, row}
use Rattle.labelled_trees.specs.Insertions.{IsContext, put, item}
use Rattle.shuffle_insertions.specs.ShuffleTrees.{IsRisingRow}

-- A frame: a hole, which is a tree with leaf 0 for what is inserted, and the trees that stand for the leaves 1, 2 and so on of it.
pub record Frame : Type 0 where
  pub hole : Tree ℕ
  pub inputs : List (Tree ℕ)

-- Insertion: x stands in the hole, and the i-th input stands for its leaf i
-- (Dotsenko and Khoroshkin 2010, the operations that replace a divisor of a tree monomial).
abbrev pub insert : Frame → Tree ℕ → Tree ℕ
insert f x = put f.hole (graft x (item f.inputs))

-- A frame for trees of arity k: leaf 0 stands once in the hole, and there are k inputs, which rise and have ascending least leaves.
pub record IsFrame (k : ℕ) (f : Frame) : Type 0 where
  pub context : IsContext f.hole
  pub as_many : length f.inputs ≡ k
  pub rising : IsRisingRow (row f.inputs)
