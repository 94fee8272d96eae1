-- Trees with one hole: a form that serves the proofs. A tree in which leaf 0 stands once is a context with leaf 0
-- in its hole, and only one: the law `contexts_are_trees` says so.
use Rattle.std.specs.Prelude.{ℕ}
use Rattle.labelled_trees.specs.Trees.{Tree, Row, node, more, graft, graft_row}

-- A context: a hole, or a vertex with a context in place of one of its inputs.
mutual
  pub data Ctx (A : Type 0) : Type 0 where
    hole : Ctx A
    inside : ℕ → RowCtx A → Ctx A

  -- one input with a hole, and the inputs after it and before it
  pub data RowCtx (A : Type 0) : Type 0 where
    here : Ctx A → Row A → RowCtx A
    past : Tree A → RowCtx A → RowCtx A

-- the context with the tree x in its hole
abbrev mutual
  pub fill : {A : Type 0} → Ctx A → Tree A → Tree A
  fill hole x = x
  fill (inside l c) x = node l (fill_row c x)

  pub fill_row : {A : Type 0} → RowCtx A → Tree A → Row A
  fill_row (here c r) x = more (fill c x) r
  fill_row (past t c) x = more t (fill_row c x)

-- the second context in the hole of the first
abbrev mutual
  pub compose : {A : Type 0} → Ctx A → Ctx A → Ctx A
  compose hole d = d
  compose (inside l c) d = inside l (compose_row c d)

  pub compose_row : {A : Type 0} → RowCtx A → Ctx A → RowCtx A
  compose_row (here c r) d = here (compose c d) r
  compose_row (past t c) d = past t (compose_row c d)

-- each leaf of a context replaced by the tree that stands for its value
abbrev mutual
  pub graft_ctx : {A B : Type 0} → Ctx A → (A → Tree B) → Ctx B
  graft_ctx hole s = hole
  graft_ctx (inside l c) s = inside l (graft_row_ctx c s)

  pub graft_row_ctx : {A B : Type 0} → RowCtx A → (A → Tree B) → RowCtx B
  graft_row_ctx (here c r) s = here (graft_ctx c s) (graft_row r s)
  graft_row_ctx (past t c) s = past (graft t s) (graft_row_ctx c s)
