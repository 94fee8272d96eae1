-- Places as patterns: a form that serves the proofs.
use Rattle.std.specs.Prelude.{ℕ, ◌+◌, ◌≡◌, List, [], ◌∷◌, ◌++◌}
use Rattle.std.proofs.Common.{suc}
use Rattle.labelled_trees.specs.Trees.{vertices, Tree, Row, leaf, node, none, more, graft, join, IsNode}
use Rattle.labelled_trees.specs.Contexts.{Ctx, RowCtx, hole, inside, here, past, fill}
use Rattle.shuffle_insertions.specs.ShuffleTrees.{least}
use Rattle.labelled_trees.specs.Ranks.{standard}

-- the numbers of a pattern's vertices, where its root has number k and s tells the hanging parts
abbrev mutual
  pub numbers : {X A : Type 0} → (X → Tree A) → ℕ → Tree X → List ℕ
  numbers s k (leaf x) = []
  numbers s k (node l r) = k ∷ numbers_row s (suc k) r

  pub numbers_row : {X A : Type 0} → (X → Tree A) → ℕ → Row X → List ℕ
  numbers_row s k none = []
  numbers_row s k (more t r) = numbers s k t ++ numbers_row s (k + vertices (graft t s)) r

-- the number of the root of what fills the hole
abbrev mutual
  pub start : {A : Type 0} → ℕ → Ctx A → ℕ
  start k hole = k
  start k (inside l c) = start_row (suc k) c

  pub start_row : {A : Type 0} → ℕ → RowCtx A → ℕ
  start_row k (here c r) = start k c
  start_row k (past t c) = start_row (k + vertices t) c

-- a place as a context and a pattern whose vertices are the set, with its divisor: a form that serves the proofs
pub record IsCut (host : Tree ℕ) (set : List ℕ) (divisor : Tree ℕ) : Type 0 where
  pub context : Ctx ℕ
  pub pattern_at : Tree (Tree ℕ)
  pub is_node : IsNode pattern_at
  pub host_is : host ≡ fill context (join pattern_at)
  pub set_is : set ≡ numbers (λ v. v) (start 1 context) pattern_at
  pub divisor_is : divisor ≡ standard (graft pattern_at (λ v. leaf (least v)))
