-- One tree laid over another at a vertex: where it goes, how many leaves there are then, and how wide the vertices are.
use Rattle.std.proofs.Common.{◌≡◌, ℕ, suc, ◌+◌, ◌<◌, ◌≤◌, refl, sym, ◌∙◌, ap, arith, subst}
use mathlib.Core.Path.{ap₂}
use native.Mathlib.Decide.{ℕ_discrete}
use Rattle.modular_sums.proofs.Choices.{choose-yes, choose-no}
use Rattle.labelled_trees.specs.Trees.{Tree, Row, leaf, node, none, more, vertices, vertices_row, width, IsNode}
use Rattle.labelled_trees.specs.Leaves.{leaf_count, leaf_count_row}
use Rattle.labelled_trees.specs.Contexts.{Ctx, RowCtx, hole, inside, here, past, fill, fill_row, graft_ctx, graft_row_ctx}
use Rattle.labelled_trees.specs.Unions.{union, union_row}
use Rattle.labelled_trees.proofs.Contexts.{graft-fill, node-eq, more-eq}
use Rattle.labelled_trees.proofs.GraftLeaves.{sum_leaves-graft, sum_row-graft}
use Rattle.shuffle_places.specs.Cuts.{start, start_row}
use Rattle.shuffle_places.specs.Overlays.{shape, shape_row}
use Rattle.shuffle_places.proofs.Overlays.{shape_union, start-named}
use Rattle.shuffle_places.proofs.PatternSets.{start_in, start_row_in}
use Rattle.shuffle_trees.specs.ValidTrees.{IsWide, AreWide}
use Rattle.common_multiples.specs.Building.{over_at, over_at_row}
use Rattle.common_multiples.specs.Overlaying.{laid_over}

-- ---- where it goes

mutual
  -- a tree in which no vertex has the number stays as it is
  pub over_elsewhere : (k v : ℕ) (t b : Tree (Unit {0})) → (k ≤ v → v < k + vertices t → ⊥) → over_at k v t b ≡ t
  over_elsewhere k v (leaf u) b f = refl
  over_elsewhere k v (node l r) b f = choose-no (ℕ_discrete k v) (union (node l r) b) (node l (over_at_row (suc k) v r b)) (λ e. f (omega (arith, e)) (omega (arith, e)))
      ∙ ap (node l) (over_row_elsewhere (suc k) v r b (λ p q. f (omega arith) (omega arith)))

  over_row_elsewhere : (k v : ℕ) (r : Row (Unit {0})) (b : Tree (Unit {0})) → (k ≤ v → v < k + vertices_row r → ⊥) → over_at_row k v r b ≡ r
  over_row_elsewhere k v none b f = refl
  over_row_elsewhere k v (more t r) b f = ap₂ more (over_elsewhere k v t b (λ p q. f p (omega (arith, q)))) (over_row_elsewhere (k + vertices t) v r b (λ p q. f (omega (arith, p)) (omega (arith, q))))

some_vertex : {A : Type 0} (x : Tree A) → IsNode x → 0 < vertices x
some_vertex (leaf a) n = absurd n
some_vertex (node l r) n = omega arith

mutual
  over_filled : (k v : ℕ) (c : Ctx (Unit {0})) (x b : Tree (Unit {0})) → IsNode x → start k c ≡ v → over_at k v (fill c x) b ≡ fill c (union x b)
  over_filled k v hole (leaf u) b n e = absurd n
  over_filled k v hole (node l r) b n e = choose-yes (ℕ_discrete k v) (union (node l r) b) (node l (over_at_row (suc k) v r b)) e
  over_filled k v (inside l c) x b n e =
      let s = start_row_in (suc k) c x in
      choose-no (ℕ_discrete k v) (union (node l (fill_row c x)) b) (node l (over_at_row (suc k) v (fill_row c x) b)) (λ q. omega (arith, q, e, s.0))
      ∙ ap (node l) (over_row_filled (suc k) v c x b n e)

  over_row_filled : (k v : ℕ) (c : RowCtx (Unit {0})) (x b : Tree (Unit {0})) → IsNode x → start_row k c ≡ v → over_at_row k v (fill_row c x) b ≡ fill_row c (union x b)
  over_row_filled k v (here c r) x b n e =
      let s = start_in k c x in
      let some = some_vertex x n in
      ap₂ more (over_filled k v c x b n e) (over_row_elsewhere (k + vertices (fill c x)) v r b (λ p q. omega (arith, p, e, s.1, some)))
  over_row_filled k v (past t c) x b n e =
      let s = start_row_in (k + vertices t) c x in
      ap₂ more (over_elsewhere k v t b (λ p q. omega (arith, q, e, s.0))) (over_row_filled (k + vertices t) v c x b n e)

shape_is_node : {A : Type 0} (x : Tree A) → IsNode x → IsNode (shape x)
shape_is_node (leaf a) n = absurd n
shape_is_node (node l r) n = tt

-- laid over the vertex with the number of the hole, it is laid over what fills the hole
pub over_at_laid : (k v : ℕ) (t b : Tree ℕ) (c : Ctx ℕ) (x : Tree ℕ) → t ≡ fill c x → IsNode x → start k c ≡ v → over_at k v (shape t) (shape b) ≡ laid_over c x b
over_at_laid k v t b c x is n e =
    ap (λ u. over_at k v u (shape b)) (ap shape is ∙ graft-fill c x (λ a. leaf tt))
    ∙ over_filled k v (graft_ctx c (λ a. leaf tt)) (shape x) (shape b) (shape_is_node x n) (start-named k c (λ a. tt) ∙ e)

-- ---- how many leaves there are

mutual
  leaves_filled : (c : Ctx ℕ) (x : Tree ℕ) (y : Tree (Unit {0})) → leaf_count (fill (graft_ctx c (λ a. leaf tt)) y) + leaf_count x ≡ leaf_count (fill c x) + leaf_count y
  leaves_filled hole x y = omega arith
  leaves_filled (inside l c) x y = leaves_row_filled c x y

  leaves_row_filled : (c : RowCtx ℕ) (x : Tree ℕ) (y : Tree (Unit {0})) → leaf_count_row (fill_row (graft_row_ctx c (λ a. leaf tt)) y) + leaf_count x ≡ leaf_count_row (fill_row c x) + leaf_count y
  leaves_row_filled (here c r) x y =
      let same : leaf_count_row (shape_row r) ≡ leaf_count_row r = sum_row-graft r (λ a. leaf tt) (λ u. 1) in
      omega (arith, leaves_filled c x y, same)
  leaves_row_filled (past t c) x y =
      let same : leaf_count (shape t) ≡ leaf_count t = sum_leaves-graft t (λ a. leaf tt) (λ u. 1) in
      omega (arith, leaves_row_filled c x y, same)

-- what is laid over changes the leaves of what fills the hole alone
pub laid_leaves : (c : Ctx ℕ) (x b : Tree ℕ) → leaf_count (laid_over c x b) + leaf_count x ≡ leaf_count (fill c x) + leaf_count (union (shape x) (shape b))
laid_leaves c x b = leaves_filled c x (union (shape x) (shape b))

-- ---- how wide the vertices are

width_union : {X : Type 0} (r s : Row X) → width (union_row r s) ≡ width r
width_union none s = refl
width_union (more t r) none = refl
width_union (more t r) (more u s) = ap suc (width_union r s)

mutual
  wide_union : (t u : Tree ℕ) → IsWide t → IsWide u → IsWide (union t u)
  wide_union (leaf i) u p q = q
  wide_union (node l r) (leaf j) p q = p
  wide_union (node l r) (node m s) p q = (subst (λ n. 2 ≤ n) (sym (width_union r s)) p.0, wide_union_row r s p.1 q.1)

  wide_union_row : (r s : Row ℕ) → AreWide r → AreWide s → AreWide (union_row r s)
  wide_union_row none s p q = tt
  wide_union_row (more t r) none p q = p
  wide_union_row (more t r) (more u s) p q = (wide_union t u p.0 q.0, wide_union_row r s p.1 q.1)

width_filled : (c : RowCtx ℕ) (x y : Tree ℕ) → width (fill_row c x) ≡ width (fill_row c y)
width_filled (here c r) x y = refl
width_filled (past t c) x y = ap suc (width_filled c x y)

mutual
  wide_filled : (c : Ctx ℕ) (x y : Tree ℕ) → (IsWide x → IsWide y) → IsWide (fill c x) → IsWide (fill c y)
  wide_filled hole x y f h = f h
  wide_filled (inside l c) x y f h = (subst (λ n. 2 ≤ n) (width_filled c x y) h.0, wide_row_filled c x y f h.1)

  wide_row_filled : (c : RowCtx ℕ) (x y : Tree ℕ) → (IsWide x → IsWide y) → AreWide (fill_row c x) → AreWide (fill_row c y)
  wide_row_filled (here c r) x y f h = (wide_filled c x y f h.0, h.1)
  wide_row_filled (past t c) x y f h = (h.0, wide_row_filled c x y f h.1)

width_shape : (r s : Row ℕ) → shape_row r ≡ shape_row s → width r ≡ width s
width_shape none none e = refl
width_shape none (more u s) e = absurd cc
width_shape (more t r) none e = absurd cc
width_shape (more t r) (more u s) e = ap suc (width_shape r s (more-eq (shape t) (shape u) (shape_row r) (shape_row s) e).1)

mutual
  -- a tree is as wide as its shape
  pub wide_shape : (t u : Tree ℕ) → shape t ≡ shape u → IsWide u → IsWide t
  wide_shape (leaf i) u e w = tt
  wide_shape (node l r) (leaf j) e w = absurd cc
  wide_shape (node l r) (node m s) e w = let rows = (node-eq l m (shape_row r) (shape_row s) e).1 in (subst (λ n. 2 ≤ n) (sym (width_shape r s rows)) w.0, wide_shape_row r s rows w.1)

  wide_shape_row : (r s : Row ℕ) → shape_row r ≡ shape_row s → AreWide s → AreWide r
  wide_shape_row none s e w = tt
  wide_shape_row (more t r) none e w = absurd cc
  wide_shape_row (more t r) (more u s) e w = let k = more-eq (shape t) (shape u) (shape_row r) (shape_row s) e in (wide_shape t u k.0 w.0, wide_shape_row r s k.1 w.1)

-- the overlay of trees whose vertices have two or more inputs is one of them
pub laid_wide : (c : Ctx ℕ) (x b tree : Tree ℕ) → IsWide (fill c x) → IsWide b → shape tree ≡ laid_over c x b → IsWide tree
laid_wide c x b tree p q e =
    wide_shape tree (fill c (union x b)) (e ∙ ap (fill (graft_ctx c (λ a. leaf tt))) (sym (shape_union x b)) ∙ sym (graft-fill c (union x b) (λ a. leaf tt)))
    (wide_filled c x (union x b) (λ w. wide_union x b w q) p)
