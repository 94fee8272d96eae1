-- Shuffle trees.
use Rattle.std.specs.Prelude.{ℕ, ◌≡◌, ◌<◌, ◌≤◌}
use Rattle.labelled_trees.specs.Trees.{Tree, Row, leaf, node, none, more}
use Rattle.labelled_trees.specs.Leaves.{occurs}
use Rattle.labelled_trees.specs.Labelled.{Fits}

-- the first leaf, which is the least where inputs stand in ascending order: the law `first_is_least` says so
abbrev mutual
  pub least : Tree ℕ → ℕ
  least (leaf n) = n
  least (node l r) = least_row r

  pub least_row : Row ℕ → ℕ
  least_row none = 0
  least_row (more t r) = least t

-- the least leaf of t is below that of the next input
abbrev pub IsBefore : Tree ℕ → Row ℕ → Type 0
IsBefore t none = Unit {0}
IsBefore t (more u r) = least t < least u

-- there is an input
abbrev pub HasInput : Row ℕ → Type 0
HasInput none = ⊥
HasInput (more t r) = Unit {0}

-- Each vertex has an input, and the inputs of each vertex stand in ascending order of their least leaves.
abbrev mutual
  pub IsRising : Tree ℕ → Type 0
  IsRising (leaf n) = Unit {0}
  IsRising (node l r) = HasInput r × IsRisingRow r

  pub IsRisingRow : Row ℕ → Type 0
  IsRisingRow none = Unit {0}
  IsRisingRow (more t r) = IsRising t × IsBefore t r × IsRisingRow r

-- A shuffle tree of arity n: its inputs rise, each number from 1 to n stands at one leaf, and no other number stands at a leaf
-- (Dotsenko and Khoroshkin 2010, shuffle trees; Bremner and Dotsenko 2016, shuffle tree monomials).
pub record IsShuffle (n : ℕ) (t : Tree ℕ) : Type 0 where
  pub rising : IsRising t
  pub each : (i : ℕ) → 0 < i → i ≤ n → occurs i t ≡ 1
  pub only : (i : ℕ) → 0 < occurs i t → (0 < i) × (i ≤ n)

-- A shuffle tree of arity n over labels: each vertex has two or more inputs, as many as its label says.
pub record IsShuffleTree (arity : ℕ → ℕ) (n : ℕ) (t : Tree ℕ) : Type 0 where
  pub fits : Fits arity t
  pub shuffle : IsShuffle n t
