-- Filling, composing and grafting contexts.
use Rattle.std.proofs.Common.{◌≡◌, ℕ, refl, ap}
use mathlib.Core.Path.{ap₂}
use Rattle.std.proofs.Common.{◌≡◌, ℕ, refl, ap}
use Rattle.std.proofs.Common.{◌≡◌, ℕ, refl, ap}
use Rattle.labelled_trees.specs.Trees.{Tree, Row, node, more, graft, graft_row}
use Rattle.labelled_trees.specs.Contexts.{Ctx, RowCtx, hole, inside, here, past, fill, fill_row, compose, compose_row, graft_ctx, graft_row_ctx}
use Rattle.labelled_trees.proofs.Grafts.{graft_assoc, graft_row_assoc}

mutual
  pub fill-compose : {A : Type 0} (c d : Ctx A) (x : Tree A) → fill (compose c d) x ≡ fill c (fill d x)
  fill-compose hole d x = refl
  fill-compose (inside l c) d x = ap (node l) (fill_row-compose c d x)

  pub fill_row-compose : {A : Type 0} (c : RowCtx A) (d : Ctx A) (x : Tree A) → fill_row (compose_row c d) x ≡ fill_row c (fill d x)
  fill_row-compose (here c r) d x = ap (λ k. more k r) (fill-compose c d x)
  fill_row-compose (past t c) d x = ap (more t) (fill_row-compose c d x)

mutual
  pub graft-fill : {A B : Type 0} (c : Ctx A) (x : Tree A) (s : A → Tree B) → graft (fill c x) s ≡ fill (graft_ctx c s) (graft x s)
  graft-fill hole x s = refl
  graft-fill (inside l c) x s = ap (node l) (graft_row-fill c x s)

  pub graft_row-fill : {A B : Type 0} (c : RowCtx A) (x : Tree A) (s : A → Tree B) → graft_row (fill_row c x) s ≡ fill_row (graft_row_ctx c s) (graft x s)
  graft_row-fill (here c r) x s = ap (λ k. more k (graft_row r s)) (graft-fill c x s)
  graft_row-fill (past t c) x s = ap (more (graft t s)) (graft_row-fill c x s)

pub node-eq : {A : Type 0} (l m : ℕ) (r s : Row A) → node l r ≡ node m s → (l ≡ m) × (r ≡ s)
node-eq l m r s e = (cc, cc)

pub more-eq : {A : Type 0} (t u : Tree A) (r s : Row A) → more t r ≡ more u s → (t ≡ u) × (r ≡ s)
more-eq t u r s e = (cc, cc)

mutual
  pub compose-hole : {A : Type 0} (c : Ctx A) → compose c hole ≡ c
  compose-hole hole = refl
  compose-hole (inside l c) = ap (inside l) (compose_row-hole c)

  pub compose_row-hole : {A : Type 0} (c : RowCtx A) → compose_row c hole ≡ c
  compose_row-hole (here c r) = ap (λ x. here x r) (compose-hole c)
  compose_row-hole (past t c) = ap (past t) (compose_row-hole c)

mutual
  pub graft_ctx_assoc : {A B C : Type 0} (c : Ctx A) (s : A → Tree B) (u : B → Tree C) → graft_ctx (graft_ctx c s) u ≡ graft_ctx c (λ a. graft (s a) u)
  graft_ctx_assoc hole s u = refl
  graft_ctx_assoc (inside l c) s u = ap (inside l) (graft_row_ctx_assoc c s u)

  pub graft_row_ctx_assoc : {A B C : Type 0} (c : RowCtx A) (s : A → Tree B) (u : B → Tree C) → graft_row_ctx (graft_row_ctx c s) u ≡ graft_row_ctx c (λ a. graft (s a) u)
  graft_row_ctx_assoc (here c r) s u = ap₂ here (graft_ctx_assoc c s u) (graft_row_assoc r s u)
  graft_row_ctx_assoc (past t c) s u = ap₂ past (graft_assoc t s u) (graft_row_ctx_assoc c s u)

mutual
  -- one context with two changes, filled to one tree
  pub same_ctx : {A B : Type 0} (c : Ctx A) (s u : A → Tree B) (x y : Tree B) → fill (graft_ctx c s) x ≡ fill (graft_ctx c u) y → graft_ctx c s ≡ graft_ctx c u
  same_ctx hole s u x y e = refl
  same_ctx (inside l c) s u x y e = ap (inside l) (same_row_ctx c s u x y (node-eq l l (fill_row (graft_row_ctx c s) x) (fill_row (graft_row_ctx c u) y) e).1)

  pub same_row_ctx : {A B : Type 0} (c : RowCtx A) (s u : A → Tree B) (x y : Tree B) → fill_row (graft_row_ctx c s) x ≡ fill_row (graft_row_ctx c u) y → graft_row_ctx c s ≡ graft_row_ctx c u
  same_row_ctx (here c r) s u x y e =
      let h = more-eq (fill (graft_ctx c s) x) (fill (graft_ctx c u) y) (graft_row r s) (graft_row r u) e in
      ap₂ here (same_ctx c s u x y h.0) h.1
  same_row_ctx (past t c) s u x y e =
      let h = more-eq (graft t s) (graft t u) (fill_row (graft_row_ctx c s) x) (fill_row (graft_row_ctx c u) y) e in
      ap₂ past h.0 (same_row_ctx c s u x y h.1)
