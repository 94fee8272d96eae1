-- What each shuffle tree of the program keeps.
use Rattle.std.specs.Prelude.{ℕ, ◌<◌, ◌≤◌}
use Rattle.labelled_trees.specs.Trees.{Tree, Row, leaf, node, none, more, width}
use Rattle.labelled_trees.specs.Leaves.{occurs}
use Rattle.shuffle_insertions.specs.ShuffleTrees.{IsRising}

-- each vertex has two or more inputs
abbrev mutual
  pub IsWide : Tree ℕ → Type 0
  IsWide (leaf n) = Unit {0}
  IsWide (node l r) = (2 ≤ width r) × AreWide r

  pub AreWide : Row ℕ → Type 0
  AreWide none = Unit {0}
  AreWide (more t r) = IsWide t × AreWide r

-- A tree is valid where no leaf number is 0, above 255 or at two leaves, each vertex has two or more inputs,
-- and the inputs of each vertex stand in ascending order of their least leaves.
pub record IsValid (t : Tree ℕ) : Type 0 where
  pub wide : IsWide t
  pub rising : IsRising t
  pub once : (i : ℕ) → occurs i t ≤ 1
  pub only : (i : ℕ) → 0 < occurs i t → (0 < i) × (i < 256)
