-- Unions of patterns that lie in one tree.
use Rattle.std.proofs.Common.{◌≡◌, refl, sym, ◌∙◌, ap, inl, inr, ◌⊎◌}
use mathlib.Core.Path.{ap₂}
use Rattle.labelled_trees.specs.Trees.{Tree, Row, leaf, node, none, more, graft, graft_row, join, IsNode}
use Rattle.labelled_trees.specs.Contexts.{Ctx, RowCtx, hole, inside, here, past, fill, fill_row, compose, compose_row, graft_ctx, graft_row_ctx}
use Rattle.labelled_trees.specs.Unions.{union, union_row, over_first, over_first_row}
use Rattle.labelled_trees.proofs.Grafts.{graft_row_assoc, graft_row_leaf}
use Rattle.labelled_trees.proofs.Contexts.{node-eq, more-eq}

-- where the hole of a context lies against a pattern with hanging parts that fills the same tree
pub record Within (X A : Type 0) (out : X → Tree A) (p : Tree X) (e : Ctx A) (y : Tree A) : Type 0 where
  pub front : Ctx X
  pub part : Tree X
  pub rest : Ctx A
  pub is : p ≡ fill front part
  pub hole_is : e ≡ compose (graft_ctx front out) rest
  pub inner : graft part out ≡ fill rest y
  -- the hole is a vertex of the pattern, or lies in a hanging part
  pub either : ((rest ≡ hole) × IsNode part) ⊎ ((x : X) × (part ≡ leaf x))

pub record WithinRow (X A : Type 0) (out : X → Tree A) (p : Row X) (e : RowCtx A) (y : Tree A) : Type 0 where
  pub front : RowCtx X
  pub part : Tree X
  pub rest : Ctx A
  pub is : p ≡ fill_row front part
  pub hole_is : e ≡ compose_row (graft_row_ctx front out) rest
  pub inner : graft part out ≡ fill rest y
  pub either : ((rest ≡ hole) × IsNode part) ⊎ ((x : X) × (part ≡ leaf x))

mutual
  pub within : {X A : Type 0} (out : X → Tree A) (p : Tree X) (e : Ctx A) (y : Tree A) → graft p out ≡ fill e y → Within X A out p e y
  within out (leaf x) e y h = record { front = hole; part = leaf x; rest = e; is = refl; hole_is = refl; inner = h; either = inr (x, refl) }
  within out (node l r) hole y h = record { front = hole; part = node l r; rest = hole; is = refl; hole_is = refl; inner = h; either = inl (refl, tt) }
  within out (node l r) (inside m d) y h =
      let q = node-eq l m (graft_row r out) (fill_row d y) h in
      let w = within_row out r d y q.1 in
      record { front = inside l w.front; part = w.part; rest = w.rest; is = ap (node l) w.is; hole_is = ap₂ inside (sym q.0) w.hole_is; inner = w.inner; either = w.either }

  pub within_row : {X A : Type 0} (out : X → Tree A) (p : Row X) (e : RowCtx A) (y : Tree A) → graft_row p out ≡ fill_row e y → WithinRow X A out p e y
  within_row out none (here d s) y h = absurd (cc h)
  within_row out none (past u d) y h = absurd (cc h)
  within_row out (more t r) (here d s) y h =
      let q = more-eq (graft t out) (fill d y) (graft_row r out) s h in
      let w = within out t d y q.0 in
      record { front = here w.front r; part = w.part; rest = w.rest; is = ap (λ k. more k r) w.is; hole_is = ap₂ here w.hole_is (sym q.1); inner = w.inner; either = w.either }
  within_row out (more t r) (past u d) y h =
      let q = more-eq (graft t out) u (graft_row r out) (fill_row d y) h in
      let w = within_row out r d y q.1 in
      record { front = past t w.front; part = w.part; rest = w.rest; is = ap (more t) w.is; hole_is = ap₂ past (sym q.0) w.hole_is; inner = w.inner; either = w.either }

mutual
  pub join-over_first : {X A : Type 0} (out : X → Tree A) (p q : Tree X) → graft p out ≡ graft q out → join (over_first p q) ≡ union p q
  join-over_first out (leaf t) q e = refl
  join-over_first out (node l r) (leaf u) e = ap (node l) (graft_row_assoc r (λ a. leaf (leaf a)) (λ s. s) ∙ graft_row_leaf r)
  join-over_first out (node l r) (node m s) e =
      ap (node l) (join-over_first_row out r s (node-eq l m (graft_row r out) (graft_row s out) e).1)

  pub join-over_first_row : {X A : Type 0} (out : X → Tree A) (p q : Row X) → graft_row p out ≡ graft_row q out
      → graft_row (over_first_row p q) (λ s. s) ≡ union_row p q
  join-over_first_row out none q e = refl
  join-over_first_row out (more t r) none e = absurd (cc e)
  join-over_first_row out (more t r) (more u s) e =
      let h = more-eq (graft t out) (graft u out) (graft_row r out) (graft_row s out) e in
      ap₂ more (join-over_first out t u h.0) (join-over_first_row out r s h.1)

mutual
  -- the hanging parts of the first pattern, each made of its share of the union
  pub parts-over_first : {X A : Type 0} (out : X → Tree A) (p q : Tree X) → graft p out ≡ graft q out
      → graft (over_first p q) (λ u. leaf (graft u out)) ≡ graft p (λ x. leaf (out x))
  parts-over_first out (leaf t) q e = ap leaf (sym e)
  parts-over_first out (node l r) (leaf u) e = ap (node l) (graft_row_assoc r (λ a. leaf (leaf a)) (λ u. leaf (graft u out)))
  parts-over_first out (node l r) (node m s) e =
      ap (node l) (parts-over_first_row out r s (node-eq l m (graft_row r out) (graft_row s out) e).1)

  pub parts-over_first_row : {X A : Type 0} (out : X → Tree A) (p q : Row X) → graft_row p out ≡ graft_row q out
      → graft_row (over_first_row p q) (λ u. leaf (graft u out)) ≡ graft_row p (λ x. leaf (out x))
  parts-over_first_row out none q e = refl
  parts-over_first_row out (more t r) none e = absurd (cc e)
  parts-over_first_row out (more t r) (more u s) e =
      let h = more-eq (graft t out) (graft u out) (graft_row r out) (graft_row s out) e in
      ap₂ more (parts-over_first out t u h.0) (parts-over_first_row out r s h.1)

mutual
  -- the vertices of both, in either order
  pub union_comm : {X A : Type 0} (out : X → Tree A) → ((x y : X) → out x ≡ out y → x ≡ y) → (p q : Tree X) → graft p out ≡ graft q out → union p q ≡ union q p
  union_comm out inj (leaf t) (leaf u) e = ap leaf (inj u t (sym e))
  union_comm out inj (leaf t) (node m s) e = refl
  union_comm out inj (node l r) (leaf u) e = refl
  union_comm out inj (node l r) (node m s) e =
      let h = node-eq l m (graft_row r out) (graft_row s out) e in
      ap₂ node h.0 (union_row_comm out inj r s h.1)

  pub union_row_comm : {X A : Type 0} (out : X → Tree A) → ((x y : X) → out x ≡ out y → x ≡ y) → (p q : Row X) → graft_row p out ≡ graft_row q out → union_row p q ≡ union_row q p
  union_row_comm out inj none none e = refl
  union_row_comm out inj none (more u s) e = absurd (cc e)
  union_row_comm out inj (more t r) none e = absurd (cc e)
  union_row_comm out inj (more t r) (more u s) e =
      let h = more-eq (graft t out) (graft u out) (graft_row r out) (graft_row s out) e in
      ap₂ more (union_comm out inj t u h.0) (union_row_comm out inj r s h.1)

mutual
  -- the two finer patterns have the union in common, and nothing of either is left out
  pub union-over_first : {X A B : Type 0} (out : X → Tree A) → ((x y : X) → out x ≡ out y → x ≡ y) → (f : X → Tree B) (p q : Tree X) → graft p out ≡ graft q out
      → union (graft (over_first p q) (λ v. leaf (graft v f))) (graft (over_first q p) (λ v. leaf (graft v f))) ≡ graft (union p q) (λ x. leaf (f x))
  union-over_first out inj f (leaf t) (leaf u) e = ap (λ x. leaf (f x)) (inj t u e)
  union-over_first out inj f (leaf t) (node m s) e = ap (node m) (graft_row_assoc s (λ a. leaf (leaf a)) (λ v. leaf (graft v f)))
  union-over_first out inj f (node l r) (leaf u) e = ap (node l) (graft_row_assoc r (λ a. leaf (leaf a)) (λ v. leaf (graft v f)))
  union-over_first out inj f (node l r) (node m s) e = ap (node l) (union_row-over_first out inj f r s (node-eq l m (graft_row r out) (graft_row s out) e).1)

  pub union_row-over_first : {X A B : Type 0} (out : X → Tree A) → ((x y : X) → out x ≡ out y → x ≡ y) → (f : X → Tree B) (p q : Row X) → graft_row p out ≡ graft_row q out
      → union_row (graft_row (over_first_row p q) (λ v. leaf (graft v f))) (graft_row (over_first_row q p) (λ v. leaf (graft v f))) ≡ graft_row (union_row p q) (λ x. leaf (f x))
  union_row-over_first out inj f none none e = refl
  union_row-over_first out inj f none (more u s) e = absurd (cc e)
  union_row-over_first out inj f (more t r) none e = absurd (cc e)
  union_row-over_first out inj f (more t r) (more u s) e =
      let h = more-eq (graft t out) (graft u out) (graft_row r out) (graft_row s out) e in
      ap₂ more (union-over_first out inj f t u h.0) (union_row-over_first out inj f r s h.1)
