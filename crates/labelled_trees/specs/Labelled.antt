-- Trees over generators with arities, whose leaves are numbered.
use Rattle.std.specs.Prelude.{ℕ, ◌≡◌, ◌<◌, ◌≤◌}
use Rattle.labelled_trees.specs.Trees.{Tree, Row, leaf, node, none, more, width}
use Rattle.labelled_trees.specs.Leaves.{occurs}

-- Each vertex names a generator and has as many inputs as its arity, which is two or more;
-- `arity` is 0 at a number that names no generator.
abbrev mutual
  pub Fits : {A : Type 0} → (ℕ → ℕ) → Tree A → Type 0
  Fits arity (leaf a) = Unit {0}
  Fits arity (node g r) = (2 ≤ arity g) × (width r ≡ arity g) × FitsRow arity r

  pub FitsRow : {A : Type 0} → (ℕ → ℕ) → Row A → Type 0
  FitsRow arity none = Unit {0}
  FitsRow arity (more t r) = Fits arity t × FitsRow arity r

-- A tree is numbered by 1 to n: each number from 1 to n stands at one leaf, and no other number stands at a leaf.
pub record IsNumbered (n : ℕ) (t : Tree ℕ) : Type 0 where
  pub each : (i : ℕ) → 0 < i → i ≤ n → occurs i t ≡ 1
  pub only : (i : ℕ) → 0 < occurs i t → (0 < i) × (i ≤ n)

-- A labelled tree of arity n: it fits the generators, each number from 1 to n stands at one leaf,
-- and no other number stands at a leaf (Bremner and Dotsenko 2016, tree monomials of a symmetric operad).
pub record IsLabelled (arity : ℕ → ℕ) (n : ℕ) (t : Tree ℕ) : Type 0 where
  pub fits : Fits arity t
  pub each : (i : ℕ) → 0 < i → i ≤ n → occurs i t ≡ 1
  pub only : (i : ℕ) → 0 < occurs i t → (0 < i) × (i ≤ n)
