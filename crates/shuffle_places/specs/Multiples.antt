-- Small common multiples.
use Rattle.std.specs.Prelude.{ℕ, ◌≡◌, ◌<◌, ◌≤◌, List}
use Rattle.std.proofs.Common.{◌⊎◌}
use Rattle.std.specs.declared.cmp.Ordering.TheVariants.{Less}
use Rattle.std.specs.Ordering.{nat_cmp}
use Rattle.std.specs.Cmp.Lexicographic.{slice_cmp}
use Rattle.labelled_trees.specs.Trees.{Tree, vertices}
use Rattle.shuffle_insertions.specs.ShuffleTrees.{IsShuffle}
use Rattle.shuffle_places.specs.Places.{IsPlace}
use Rattle.modular_sums.specs.Lists.{Mem}

-- A shuffle tree of arity n and two places in it, with the divisors a and b, that share a vertex and together hold all vertices.
pub record IsOverlap (n : ℕ) (a b tree : Tree ℕ) (first second : List ℕ) : Type 0 where
  pub valid : IsShuffle n tree
  pub first_at : IsPlace tree first a
  pub second_at : IsPlace tree second b
  pub shared : (v : ℕ) × Mem v first × Mem v second
  pub covers : (v : ℕ) → 0 < v → v ≤ vertices tree → Mem v first ⊎ Mem v second

-- A small common multiple of a and b of arity n; where a and b are one tree, the first place comes before the second
-- (Dotsenko and Khoroshkin 2010, small common multiples).
pub record IsMultiple (n : ℕ) (a b tree : Tree ℕ) (first second : List ℕ) : Type 0 where
  pub overlap : IsOverlap n a b tree first second
  pub ordered : a ≡ b → slice_cmp nat_cmp first second ≡ Less
