-- What is asked of an order of shuffle trees.
use Rattle.std.specs.Prelude.{ℕ, ◌≡◌}
use Rattle.std.specs.declared.cmp.Ordering.{Ordering}
use Rattle.std.specs.declared.cmp.Ordering.TheVariants.{Less, Equal}
use Rattle.std.specs.Ordering.{ordering_reverse}
use Rattle.labelled_trees.specs.Trees.{Tree}
use Rattle.shuffle_insertions.specs.ShuffleTrees.{IsShuffle, IsShuffleTree}
use Rattle.shuffle_insertions.specs.Frames.{Frame, insert, IsFrame}

-- A comparison of shuffle trees of one arity over labels is an order of them: it answers `Equal` only for equal trees,
-- turns round, is transitive, and is kept by insertion
-- (Dotsenko and Khoroshkin 2010, admissible orderings; Bremner and Dotsenko 2016, monomial orders).
pub record IsTreeOrder (arity : ℕ → ℕ) (compare : Tree ℕ → Tree ℕ → Ordering) : Type 0 where
  pub equal_only : (n : ℕ) (x y : Tree ℕ) → IsShuffleTree arity n x → IsShuffleTree arity n y → compare x y ≡ Equal → x ≡ y
  pub turned : (x y : Tree ℕ) → compare x y ≡ ordering_reverse (compare y x)
  pub transitive : (x y z : Tree ℕ) → compare x y ≡ Less → compare y z ≡ Less → compare x z ≡ Less
  pub kept : (k n : ℕ) (f : Frame) (x y : Tree ℕ) → IsFrame k f → IsShuffle k x → IsShuffle k y → IsShuffle n (insert f x)
      → compare (insert f x) (insert f y) ≡ compare x y
