-- What the steps answer that lay one tree over another.
use Rattle.std.specs.Prelude.{ℕ, ◌+◌, ◌≡◌, ◌<◌, ◌≤◌}
use Rattle.std.proofs.Common.{suc}
use native.Mathlib.Decide.{ℕ_discrete}
use Rattle.modular_sums.specs.Lists.{choose}
use Rattle.labelled_trees.specs.Trees.{Tree, Row, leaf, node, none, more, vertices}
use Rattle.labelled_trees.specs.Leaves.{leaf_count}
use Rattle.labelled_trees.specs.Meaning.{tree_of}
use Rattle.labelled_trees.specs.Unions.{union}
use Rattle.common_multiples.specs.Overlaying.{StandsAt}
use Rattle.common_multiples.specs.declared.overlays.Vertex.{Vertex}
use Rattle.common_multiples.specs.declared.overlays.Vertex.TheVariants.{At, Past}

-- what a search for the vertex v answers in a tree whose root has number k: the tree from it on; or else the number behind
-- the tree's vertices, where v is none of them
abbrev pub IsVertexSearch : ℕ → ℕ → Tree ℕ → Vertex → Type 0
IsVertexSearch k v t (At found) = StandsAt k v t (tree_of found.now)
IsVertexSearch k v t (Past next) = (next ≡ k + vertices t) × (k ≤ v → v < k + vertices t → ⊥)

-- the tree of the shape whose leaves, from left to right, are f of the numbers behind k
abbrev mutual
  pub numbered : (ℕ → ℕ) → ℕ → Tree (Unit {0}) → Tree ℕ
  numbered f k (leaf u) = leaf (f (suc k))
  numbered f k (node l r) = node l (numbered_row f k r)

  pub numbered_row : (ℕ → ℕ) → ℕ → Row (Unit {0}) → Row ℕ
  numbered_row f k none = none
  numbered_row f k (more t r) = more (numbered f k t) (numbered_row f (k + leaf_count t) r)

-- b laid over the shape at its vertex v, where its root has number k
abbrev mutual
  pub over_at : ℕ → ℕ → Tree (Unit {0}) → Tree (Unit {0}) → Tree (Unit {0})
  over_at k v (leaf u) b = leaf u
  over_at k v (node l r) b = choose (ℕ_discrete k v) (union (node l r) b) (node l (over_at_row (suc k) v r b))

  pub over_at_row : ℕ → ℕ → Row (Unit {0}) → Tree (Unit {0}) → Row (Unit {0})
  over_at_row k v none b = none
  over_at_row k v (more t r) b = more (over_at k v t b) (over_at_row (k + vertices t) v r b)
