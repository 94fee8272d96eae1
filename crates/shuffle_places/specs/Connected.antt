-- Connected sets of vertices; the vertices of a tree are numbered from 1 in preorder.
use Rattle.std.specs.Prelude.{ℕ, ◌+◌, ◌≡◌, ◌<◌, ◌≤◌, List, ◌∷◌}
use Rattle.std.proofs.Common.{suc, ◌⊎◌}
use Rattle.modular_sums.specs.Lists.{Mem, Rises}
use Rattle.labelled_trees.specs.Trees.{Tree, Row, leaf, node, none, more, IsNode, vertices}

-- vertex u stands directly below vertex p, where the root of the tree has number k
abbrev mutual
  pub Edge : {A : Type 0} → ℕ → Tree A → ℕ → ℕ → Type 0
  Edge k (leaf a) p u = ⊥
  Edge k (node l r) p u = EdgeRow k (suc k) r p u

  -- the same among inputs of the vertex up, where the first vertex in them has number k
  pub EdgeRow : {A : Type 0} → ℕ → ℕ → Row A → ℕ → ℕ → Type 0
  EdgeRow up k none p u = ⊥
  EdgeRow up k (more t r) p u = (IsNode t × (p ≡ up) × (u ≡ k)) ⊎ (Edge k t p u ⊎ EdgeRow up (k + vertices t) r p u)

-- A connected set of vertices: a rising list of numbers of vertices that isn't empty, in which each but the first
-- stands directly below another (Dotsenko and Khoroshkin 2010, subtrees).
pub record IsConnected {A : Type 0} (t : Tree A) (l : List ℕ) : Type 0 where
  pub top : ℕ
  pub rest : List ℕ
  pub is : l ≡ top ∷ rest
  pub rises : Rises l
  pub is_vertex : (0 < top) × (top ≤ vertices t)
  pub below : (u : ℕ) → Mem u rest → (p : ℕ) × Mem p l × Edge 1 t p u
