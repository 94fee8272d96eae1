-- Each small common multiple has one of the candidate shapes.
use Rattle.std.proofs.Common.{◌≡◌, ℕ, suc, ◌+◌, ◌<◌, ◌≤◌, List, ◌∷◌, map, refl, sym, ◌∙◌, ap, arith, subst, inl, inr, ◌⊎◌}
use mathlib.Core.List.{◌++◌}
use mathlib.Core.Path.{ap₂}
use Rattle.labelled_trees.specs.Trees.{Tree, Row, leaf, node, none, more, graft, graft_row, join, IsNode, IsLeaf, vertices, vertices_row}
use Rattle.labelled_trees.specs.Contexts.{Ctx, RowCtx, hole, inside, here, past, fill, fill_row, compose, graft_ctx, graft_row_ctx}
use Rattle.labelled_trees.specs.Unions.{union, union_row}
use Rattle.shuffle_insertions.specs.ShuffleTrees.{least}
use Rattle.labelled_trees.specs.Ranks.{below, standard}
use Rattle.labelled_trees.specs.Leaves.{AllLeaves, AllRow}
use Rattle.shuffle_places.proofs.Places.{cut_of_place}
use Rattle.shuffle_places.specs.Cuts.{numbers, numbers_row, start, start_row, IsCut}
use Rattle.modular_sums.specs.Lists.{Mem}
use Rattle.shuffle_places.specs.Multiples.{IsOverlap}
use Rattle.shuffle_places.specs.Overlays.{shape, shape_row, overlays, overlays_row, shapes_of}
use Rattle.labelled_trees.proofs.Grafts.{graft_assoc}
use Rattle.labelled_trees.proofs.Contexts.{node-eq, more-eq, graft-fill, graft_row-fill, compose-hole, same_ctx, graft_ctx_assoc}
use Rattle.labelled_trees.proofs.Unions.{Within, within}
use Rattle.modular_sums.proofs.Lists.{mem_right, mem_map, mem_left, mem_either}
use Rattle.shuffle_places.proofs.Vertices.{In, numbers_in, numbers_row_in}
use Rattle.shuffle_places.proofs.PatternSets.{start_in, start_row_in, start_row_from, start-compose}

mutual
  at_vertex : {X : Type 0} (c : Ctx X) (x b : Tree X) → IsNode x → Mem (fill c (union x b)) (overlays (fill c x) b)
  at_vertex hole (leaf y) b n = absurd n
  at_vertex hole (node l r) b n = inl refl
  at_vertex (inside l c) x b n = inr (mem_map (node l) (fill_row c (union x b)) (overlays_row (fill_row c x) b) (at_vertex_row c x b n))

  at_vertex_row : {X : Type 0} (c : RowCtx X) (x b : Tree X) → IsNode x → Mem (fill_row c (union x b)) (overlays_row (fill_row c x) b)
  at_vertex_row (here c r) x b n = mem_left (more (fill c (union x b)) r) (map (λ y. more y r) (overlays (fill c x) b)) (map (more (fill c x)) (overlays_row r b))
      (mem_map (λ y. more y r) (fill c (union x b)) (overlays (fill c x) b) (at_vertex c x b n))
  at_vertex_row (past t c) x b n = mem_right (more t (fill_row c (union x b))) (map (λ y. more y (fill_row c x)) (overlays t b)) (map (more t) (overlays_row (fill_row c x) b))
      (mem_map (more t) (fill_row c (union x b)) (overlays_row (fill_row c x) b) (at_vertex_row c x b n))

mutual
  pub shape_union : {X : Type 0} (p q : Tree X) → shape (union p q) ≡ union (shape p) (shape q)
  shape_union (leaf t) q = refl
  shape_union (node l r) (leaf u) = refl
  shape_union (node l r) (node m s) = ap (node l) (shape_union_row r s)

  pub shape_union_row : {X : Type 0} (r s : Row X) → shape_row (union_row r s) ≡ union_row (shape_row r) (shape_row s)
  shape_union_row none s = refl
  shape_union_row (more t r) none = refl
  shape_union_row (more t r) (more u s) = ap₂ more (shape_union t u) (shape_union_row r s)

leaf_shape : (y : Tree ℕ) → IsLeaf y → shape y ≡ leaf tt
leaf_shape (leaf a) h = refl
leaf_shape (node l r) h = absurd h

mutual
  -- where the hanging parts are leaves, the pattern has the shape of the whole
  pub bare_shape : {X : Type 0} (s : X → Tree ℕ) (t : Tree X) → AllLeaves t (λ x. IsLeaf (s x)) → shape (graft t s) ≡ shape t
  bare_shape s (leaf x) h = leaf_shape (s x) h
  bare_shape s (node l r) h = ap (node l) (bare_shape_row s r h)

  pub bare_shape_row : {X : Type 0} (s : X → Tree ℕ) (r : Row X) → AllRow r (λ x. IsLeaf (s x)) → shape_row (graft_row r s) ≡ shape_row r
  bare_shape_row s none h = refl
  bare_shape_row s (more t r) h = ap₂ more (bare_shape s t h.0) (bare_shape_row s r h.1)

leaf_of : (y : Tree ℕ) (k : ℕ) → ((v : ℕ) → In v k (vertices y) → ⊥) → IsLeaf y
leaf_of (leaf a) k h = tt
leaf_of (node l r) k h = absurd (h k (omega arith))

-- members of a joined list that lie in the first or the second range
in_left : (v k m n : ℕ) (a b : List ℕ) → ((u : ℕ) → Mem u b → In u (k + m) n) → In v k m → Mem v (a ++ b) → Mem v a
in_left v k m n a b f i h = go (mem_either v a b h)
  where
    go : Mem v a ⊎ Mem v b → Mem v a
    go (inl x) = x
    go (inr x) = let j = f v x in absurd (omega (arith, j.0, i.1))

in_right : (v k m n : ℕ) (a b : List ℕ) → ((u : ℕ) → Mem u a → In u k m) → In v (k + m) n → Mem v (a ++ b) → Mem v b
in_right v k m n a b f i h = go (mem_either v a b h)
  where
    go : Mem v a ⊎ Mem v b → Mem v b
    go (inl x) = let j = f v x in absurd (omega (arith, j.1, i.0))
    go (inr x) = x

past_root : (v k : ℕ) (l : List ℕ) → k < v → Mem v (k ∷ l) → Mem v l
past_root v k l lt (inl e) = absurd (omega (arith, e, lt))
past_root v k l lt (inr h) = h

mutual
  -- a pattern that has all vertices has leaves alone as hanging parts
  bare_of : {X : Type 0} (s : X → Tree ℕ) (t : Tree X) (k : ℕ) → ((v : ℕ) → In v k (vertices (graft t s)) → Mem v (numbers s k t)) → AllLeaves t (λ x. IsLeaf (s x))
  bare_of s (leaf x) k h = leaf_of (s x) k h
  bare_of s (node l r) k h = bare_of_row s r (suc k) (λ v i. past_root v k (numbers_row s (suc k) r) (omega (arith, i.0)) (h v (omega (arith, i.0, i.1))))

  bare_of_row : {X : Type 0} (s : X → Tree ℕ) (r : Row X) (k : ℕ) → ((v : ℕ) → In v k (vertices_row (graft_row r s)) → Mem v (numbers_row s k r)) → AllRow r (λ x. IsLeaf (s x))
  bare_of_row s none k h = tt
  bare_of_row s (more t r) k h = (
    bare_of s t k (λ v i. in_left v k (vertices (graft t s)) (vertices_row (graft_row r s)) (numbers s k t) (numbers_row s (k + vertices (graft t s)) r)
        (λ u m. numbers_row_in s (k + vertices (graft t s)) r u m) i (h v (omega (arith, i.0, i.1)))),
    bare_of_row s r (k + vertices (graft t s)) (λ v i. in_right v k (vertices (graft t s)) (vertices_row (graft_row r s)) (numbers s k t) (numbers_row s (k + vertices (graft t s)) r)
        (λ u m. numbers_in s k t u m) i (h v (omega (arith, i.0, i.1)))),
  )

abbrev self : Tree ℕ → Tree ℕ
self v = v

either_map : (P Q R S : Type 0) → (P → R) → (Q → S) → P ⊎ Q → R ⊎ S
either_map P Q R S f g (inl p) = inl (f p)
either_map P Q R S f g (inr q) = inr (g q)

drop_none : (P : Type 0) → ⊥ ⊎ P → P
drop_none P (inl e) = absurd e
drop_none P (inr p) = p

drop_second : (P : Type 0) → P ⊎ ⊥ → P
drop_second P (inl p) = p
drop_second P (inr e) = absurd e

mutual
  -- two patterns that have all vertices together
  union_bare : (p q : Tree (Tree ℕ)) (k : ℕ) → join p ≡ join q → ((v : ℕ) → In v k (vertices (join p)) → Mem v (numbers self k p) ⊎ Mem v (numbers self k q)) → AllLeaves (union p q) IsLeaf
  union_bare (leaf t) q k e h = bare_of self q k (λ v i. drop_none (Mem v (numbers self k q)) (h v (subst (λ x. In v k (vertices x)) (sym e) i)))
  union_bare (node l r) (leaf u) k e h = bare_of self (node l r) k (λ v i. drop_second (Mem v (numbers self k (node l r))) (h v i))
  union_bare (node l r) (node m s) k e h = union_row_bare r s (suc k) (node-eq l m (graft_row r self) (graft_row s self) e).1
      (λ v i. either_map (Mem v (k ∷ numbers_row self (suc k) r)) (Mem v (k ∷ numbers_row self (suc k) s)) (Mem v (numbers_row self (suc k) r)) (Mem v (numbers_row self (suc k) s))
      (past_root v k (numbers_row self (suc k) r) (omega (arith, i.0))) (past_root v k (numbers_row self (suc k) s) (omega (arith, i.0))) (h v (omega (arith, i.0, i.1))))

  union_row_bare : (r s : Row (Tree ℕ)) (k : ℕ) → graft_row r self ≡ graft_row s self → ((v : ℕ) → In v k (vertices_row (graft_row r self)) → Mem v (numbers_row self k r) ⊎ Mem v (numbers_row self k s)) → AllRow (union_row r s) IsLeaf
  union_row_bare none none k e h = tt
  union_row_bare none (more u s) k e h = absurd (cc e)
  union_row_bare (more t r) none k e h = absurd (cc e)
  union_row_bare (more t r) (more u s) k e h =
      let d = more-eq (graft t self) (graft u self) (graft_row r self) (graft_row s self) e in
      let n = numbers_row self (k + vertices (graft t self)) in
      let g = λ (v : ℕ) (i : In v k (vertices (graft t self) + vertices_row (graft_row r self))). subst (λ x. Mem v (numbers self k t ++ numbers_row self (k + vertices (graft t self)) r) ⊎ Mem v (numbers self k u ++ numbers_row self (k + vertices x) s)) (sym d.0) (h v i) in (
        union_bare t u k d.0 (λ v i. either_map (Mem v (numbers self k t ++ numbers_row self (k + vertices (graft t self)) r)) (Mem v (numbers self k u ++ numbers_row self (k + vertices (graft t self)) s)) (Mem v (numbers self k t)) (Mem v (numbers self k u))
            (in_left v k (vertices (graft t self)) (vertices_row (graft_row r self)) (numbers self k t) (numbers_row self (k + vertices (graft t self)) r) (λ w m. numbers_row_in self (k + vertices (graft t self)) r w m) i)
            (in_left v k (vertices (graft t self)) (vertices_row (graft_row s self)) (numbers self k u) (numbers_row self (k + vertices (graft t self)) s) (λ w m. numbers_row_in self (k + vertices (graft t self)) s w m) i)
            (g v (omega (arith, i.0, i.1)))),
        union_row_bare r s (k + vertices (graft t self)) d.1 (λ v i. either_map (Mem v (numbers self k t ++ numbers_row self (k + vertices (graft t self)) r)) (Mem v (numbers self k u ++ numbers_row self (k + vertices (graft t self)) s))
            (Mem v (numbers_row self (k + vertices (graft t self)) r)) (Mem v (numbers_row self (k + vertices (graft t self)) s))
            (in_right v k (vertices (graft t self)) (vertices_row (graft_row r self)) (numbers self k t) (numbers_row self (k + vertices (graft t self)) r) (λ w m. numbers_in self k t w m) i)
            (in_right v k (vertices (graft t self)) (vertices_row (graft_row r self)) (numbers self k u) (numbers_row self (k + vertices (graft t self)) s)
            (λ w m. subst (λ x. In w k (vertices x)) (sym d.0) (numbers_in self k u w m)) i)
            (g v (omega (arith, i.0, i.1)))),
      )

-- the vertices of what hangs in a context are apart from the vertices of a pattern around it
mutual
  ctx_shape : (c : Ctx (Tree ℕ)) (x : Tree (Tree ℕ)) (k : ℕ) (l : List ℕ)
      → ((v : ℕ) → In v k (vertices (join (fill c x))) → Mem v (numbers self k (fill c x)) ⊎ Mem v l)
      → ((v : ℕ) → Mem v l → In v (start k (graft_ctx c self)) (vertices (join x)))
      → shape (join (fill c x)) ≡ fill (graft_ctx c (λ a. leaf tt)) (shape (join x))
  ctx_shape hole x k l h g = refl
  ctx_shape (inside n c) x k l h g = ap (node n) (ctx_row_shape c x (suc k) l
      (λ v i. either_map (Mem v (k ∷ numbers_row self (suc k) (fill_row c x))) (Mem v l) (Mem v (numbers_row self (suc k) (fill_row c x))) (Mem v l)
      (past_root v k (numbers_row self (suc k) (fill_row c x)) (omega (arith, i.0))) (λ m. m) (h v (omega (arith, i.0, i.1)))) g)

  ctx_row_shape : (c : RowCtx (Tree ℕ)) (x : Tree (Tree ℕ)) (k : ℕ) (l : List ℕ)
      → ((v : ℕ) → In v k (vertices_row (graft_row (fill_row c x) self)) → Mem v (numbers_row self k (fill_row c x)) ⊎ Mem v l)
      → ((v : ℕ) → Mem v l → In v (start_row k (graft_row_ctx c self)) (vertices (join x)))
      → shape_row (graft_row (fill_row c x) self) ≡ fill_row (graft_row_ctx c (λ a. leaf tt)) (shape (join x))
  ctx_row_shape (here c r) x k l h g = ap₂ more
      (ctx_shape c x k l
      (λ v i. either_map (Mem v (numbers self k (fill c x) ++ numbers_row self (k + vertices (join (fill c x))) r)) (Mem v l) (Mem v (numbers self k (fill c x))) (Mem v l)
      (in_left v k (vertices (join (fill c x))) (vertices_row (graft_row r self)) (numbers self k (fill c x)) (numbers_row self (k + vertices (join (fill c x))) r)
      (λ w m. numbers_row_in self (k + vertices (join (fill c x))) r w m) i) (λ m. m) (h v (omega (arith, i.0, i.1)))) g)
      (bare_shape_row self r (bare_of_row self r (k + vertices (join (fill c x))) (λ v i. only v i (h v (omega (arith, i.0, i.1))))))
    where
      only : (v : ℕ) → In v (k + vertices (join (fill c x))) (vertices_row (graft_row r self)) → Mem v (numbers self k (fill c x) ++ numbers_row self (k + vertices (join (fill c x))) r) ⊎ Mem v l
          → Mem v (numbers_row self (k + vertices (join (fill c x))) r)
      only v i (inl m) = in_right v k (vertices (join (fill c x))) (vertices_row (graft_row r self)) (numbers self k (fill c x)) (numbers_row self (k + vertices (join (fill c x))) r)
          (λ w n. numbers_in self k (fill c x) w n) i m
      only v i (inr m) =
          let j = g v m in let s = start_in k (graft_ctx c self) (join x) in
          let e : vertices (join (fill c x)) ≡ vertices (fill (graft_ctx c self) (join x)) = ap vertices (graft-fill c x self) in
          absurd (omega (arith, j.1, s.1, i.0, e))
  ctx_row_shape (past t c) x k l h g = ap₂ more
      (bare_shape self t (bare_of self t k (λ v i. only v i (h v (omega (arith, i.0, i.1))))))
      (ctx_row_shape c x (k + vertices (join t)) l
      (λ v i. either_map (Mem v (numbers self k t ++ numbers_row self (k + vertices (join t)) (fill_row c x))) (Mem v l) (Mem v (numbers_row self (k + vertices (join t)) (fill_row c x))) (Mem v l)
      (in_right v k (vertices (join t)) (vertices_row (graft_row (fill_row c x) self)) (numbers self k t) (numbers_row self (k + vertices (join t)) (fill_row c x))
      (λ w m. numbers_in self k t w m) i) (λ m. m) (h v (omega (arith, i.0, i.1)))) g)
    where
      only : (v : ℕ) → In v k (vertices (join t)) → Mem v (numbers self k t ++ numbers_row self (k + vertices (join t)) (fill_row c x)) ⊎ Mem v l → Mem v (numbers self k t)
      only v i (inl m) = in_left v k (vertices (join t)) (vertices_row (graft_row (fill_row c x) self)) (numbers self k t) (numbers_row self (k + vertices (join t)) (fill_row c x))
          (λ w n. numbers_row_in self (k + vertices (join t)) (fill_row c x) w n) i m
      only v i (inr m) =
          let j = g v m in let s = start_row_in (k + vertices (join t)) (graft_row_ctx c self) (join x) in
          absurd (omega (arith, j.0, s.0, i.1))

mutual
  -- the numbers of a pattern that lie in a part of it are the part's
  part_numbers : (c : Ctx (Tree ℕ)) (x : Tree (Tree ℕ)) (k v : ℕ) → Mem v (numbers self k (fill c x)) → In v (start k (graft_ctx c self)) (vertices (join x)) → Mem v (numbers self (start k (graft_ctx c self)) x)
  part_numbers hole x k v m i = m
  part_numbers (inside n c) x k v m i =
      let s = start_row_in (suc k) (graft_row_ctx c self) (join x) in
      part_numbers_row c x (suc k) v (past_root v k (numbers_row self (suc k) (fill_row c x)) (omega (arith, s.0, i.0)) m) i

  part_numbers_row : (c : RowCtx (Tree ℕ)) (x : Tree (Tree ℕ)) (k v : ℕ) → Mem v (numbers_row self k (fill_row c x)) → In v (start_row k (graft_row_ctx c self)) (vertices (join x)) → Mem v (numbers self (start_row k (graft_row_ctx c self)) x)
  part_numbers_row (here c r) x k v m i =
      let s = start_in k (graft_ctx c self) (join x) in
      let e : vertices (join (fill c x)) ≡ vertices (fill (graft_ctx c self) (join x)) = ap vertices (graft-fill c x self) in
      part_numbers c x k v (in_left v k (vertices (join (fill c x))) (vertices_row (graft_row r self)) (numbers self k (fill c x)) (numbers_row self (k + vertices (join (fill c x))) r)
      (λ w n. numbers_row_in self (k + vertices (join (fill c x))) r w n) (omega (arith, s.0, s.1, i.0, i.1, e)) m) i
  part_numbers_row (past t c) x k v m i =
      let s = start_row_in (k + vertices (join t)) (graft_row_ctx c self) (join x) in
      let e : vertices_row (graft_row (fill_row c x) self) ≡ vertices_row (fill_row (graft_row_ctx c self) (join x)) = ap vertices_row (graft_row-fill c x self) in
      part_numbers_row c x (k + vertices (join t)) v (in_right v k (vertices (join t)) (vertices_row (graft_row (fill_row c x) self)) (numbers self k t) (numbers_row self (k + vertices (join t)) (fill_row c x))
      (λ w n. numbers_in self k t w n) (omega (arith, s.0, s.1, i.0, i.1, e)) m) i

mutual
  graft_union : (x y : Tree (Tree ℕ)) → join x ≡ join y → join (union x y) ≡ join x
  graft_union (leaf t) y e = sym e
  graft_union (node l r) (leaf z) e = refl
  graft_union (node l r) (node m s) e = ap (node l) (graft_union_row r s (node-eq l m (graft_row r self) (graft_row s self) e).1)

  graft_union_row : (r s : Row (Tree ℕ)) → graft_row r self ≡ graft_row s self → graft_row (union_row r s) self ≡ graft_row r self
  graft_union_row none s e = refl
  graft_union_row (more t r) none e = refl
  graft_union_row (more t r) (more z s) e =
      let d = more-eq (graft t self) (graft z self) (graft_row r self) (graft_row s self) e in
      ap₂ more (graft_union t z d.0) (graft_union_row r s d.1)

at_top : {A : Type 0} (c : Ctx A) → start 1 c ≤ 1 → c ≡ hole
at_top hole h = refl
at_top {A = A} (inside n c) h = absurd (no (start_row_low c))
  where
    start_row_low : (c : RowCtx A) → 2 ≤ start_row 2 c
    start_row_low c = (start_row_from 2 c)

    no : 2 ≤ start_row 2 c → ⊥
    no k = omega arith

mutual
  -- as many vertices, whatever the leaves are
  pub vertices-named : {A B : Type 0} (t : Tree A) (f : A → B) → vertices (graft t (λ a. leaf (f a))) ≡ vertices t
  vertices-named (leaf a) f = refl
  vertices-named (node l r) f = ap suc (vertices_row-named r f)

  pub vertices_row-named : {A B : Type 0} (r : Row A) (f : A → B) → vertices_row (graft_row r (λ a. leaf (f a))) ≡ vertices_row r
  vertices_row-named none f = refl
  vertices_row-named (more t r) f = ap₂ (λ m n. m + n) (vertices-named t f) (vertices_row-named r f)

mutual
  -- the hole's number doesn't depend on the leaves
  pub start-named : {A B : Type 0} (k : ℕ) (c : Ctx A) (f : A → B) → start k (graft_ctx c (λ a. leaf (f a))) ≡ start k c
  start-named k hole f = refl
  start-named k (inside l c) f = start_row-named (suc k) c f

  pub start_row-named : {A B : Type 0} (k : ℕ) (c : RowCtx A) (f : A → B) → start_row k (graft_row_ctx c (λ a. leaf (f a))) ≡ start_row k c
  start_row-named k (here c r) f = start-named k c f
  start_row-named k (past t c) f = ap (λ m. start_row (k + m) (graft_row_ctx c (λ a. leaf (f a)))) (vertices-named t f) ∙ start_row-named (k + vertices t) c f

-- The second of two places that hold all vertices lies over the first, which has the root: where it lies, and the shape that this makes.
pub record LiesOver (tree a b : Tree ℕ) (second : List ℕ) : Type 0 where
  pub context : Ctx (Unit {0})
  pub part : Tree (Unit {0})
  pub first_is : shape a ≡ fill context part
  pub is_node : IsNode part
  pub tree_is : shape tree ≡ fill context (union part (shape b))
  pub rest : List ℕ
  pub top_is : second ≡ start 1 context ∷ rest

pub standard_shape : (p : Tree (Tree ℕ)) → shape (standard (graft p (λ v. leaf (least v)))) ≡ shape p
standard_shape p =
    graft_assoc (graft p (λ v. leaf (least v))) (λ i. leaf (suc (below i (graft p (λ v. leaf (least v)))))) (λ a. leaf tt)
    ∙ graft_assoc p (λ v. leaf (least v)) (λ a. leaf tt)

-- the first place has the root
module _ (tree : Tree ℕ) (first second : List ℕ) (a b : Tree ℕ) (p : IsCut tree first a) (q : IsCut tree second b)
    (covers : (v : ℕ) → 0 < v → v ≤ vertices tree → Mem v first ⊎ Mem v second) (u : ℕ) (uf : Mem u first) (us : Mem u second) (root : p.context ≡ hole) where
  tree_is : tree ≡ join p.pattern_at
  tree_is = p.host_is ∙ ap (λ c. fill c (join p.pattern_at)) root

  first_is : first ≡ numbers self 1 p.pattern_at
  first_is = p.set_is ∙ ap (λ c. numbers self (start 1 c) p.pattern_at) root

  w : Within (Tree ℕ) ℕ self p.pattern_at q.context (join q.pattern_at)
  w = within self p.pattern_at q.context (join q.pattern_at) (sym tree_is ∙ q.host_is)

  module _ (front : Ctx (Tree ℕ)) (part : Tree (Tree ℕ)) (rest : Ctx ℕ) (is : p.pattern_at ≡ fill front part) (hole_is : q.context ≡ compose (graft_ctx front self) rest)
      (inner : graft part self ≡ fill rest (join q.pattern_at)) where
    -- the second place isn't in a hanging part of the first
    not_hanging : (x : Tree ℕ) → part ≡ leaf x → ⊥
    not_hanging x e =
        let k = start 1 (graft_ctx front self) in
        let s : start 1 q.context ≡ start k rest = ap (start 1) hole_is ∙ start-compose 1 (graft_ctx front self) rest in
        let m = subst (λ z. Mem u (numbers self z q.pattern_at)) s (subst (Mem u) q.set_is us) in
        let i = numbers_in self (start k rest) q.pattern_at u m in
        let r = start_in k rest (join q.pattern_at) in
        let g : vertices (join part) ≡ vertices (fill rest (join q.pattern_at)) = ap vertices inner in
        subst (λ z. Mem u (numbers self k z) → ⊥) (sym e) (λ z. z)
        (part_numbers front part 1 u (subst (λ z. Mem u (numbers self 1 z)) is (subst (Mem u) first_is uf)) (omega (arith, i.0, i.1, r.0, r.1, g)))

    module _ (rest_is : rest ≡ hole) (is_node : IsNode part) where
      second_is : second ≡ numbers self (start 1 (graft_ctx front self)) q.pattern_at
      second_is = q.set_is ∙ ap (λ c. numbers self (start 1 c) q.pattern_at) (hole_is ∙ ap (compose (graft_ctx front self)) rest_is ∙ compose-hole (graft_ctx front self))

      one : join part ≡ join q.pattern_at
      one = inner ∙ ap (λ c. fill c (join q.pattern_at)) rest_is

      whole_is : tree ≡ join (fill front part)
      whole_is = tree_is ∙ ap join is

      all_in : (v : ℕ) → In v 1 (vertices (join (fill front part))) → Mem v (numbers self 1 (fill front part)) ⊎ Mem v second
      all_in v i = either_map (Mem v first) (Mem v second) (Mem v (numbers self 1 (fill front part))) (Mem v second)
          (subst (Mem v) (first_is ∙ ap (numbers self 1) is)) (λ m. m)
          (covers v (omega (arith, i.0)) (let e : vertices tree ≡ vertices (join (fill front part)) = ap vertices whole_is in omega (arith, i.1, e)))

      second_in : (v : ℕ) → Mem v second → In v (start 1 (graft_ctx front self)) (vertices (join part))
      second_in v m = subst (λ x. In v (start 1 (graft_ctx front self)) (vertices x)) (sym one) (numbers_in self (start 1 (graft_ctx front self)) q.pattern_at v (subst (Mem v) second_is m))

      part_covered : (v : ℕ) → In v (start 1 (graft_ctx front self)) (vertices (join part)) → Mem v (numbers self (start 1 (graft_ctx front self)) part) ⊎ Mem v (numbers self (start 1 (graft_ctx front self)) q.pattern_at)
      part_covered v i =
          let r = start_in 1 (graft_ctx front self) (join part) in
          let e : vertices (join (fill front part)) ≡ vertices (fill (graft_ctx front self) (join part)) = ap vertices (graft-fill front part self) in
          either_map (Mem v (numbers self 1 (fill front part))) (Mem v second) (Mem v (numbers self (start 1 (graft_ctx front self)) part)) (Mem v (numbers self (start 1 (graft_ctx front self)) q.pattern_at))
          (λ m. part_numbers front part 1 v m i) (subst (Mem v) second_is) (all_in v (omega (arith, i.0, i.1, r.0, r.1, e)))

      part_shape : shape (join part) ≡ union (shape part) (shape b)
      part_shape =
          ap shape (sym (graft_union part q.pattern_at one))
          ∙ bare_shape self (union part q.pattern_at) (union_bare part q.pattern_at (start 1 (graft_ctx front self)) one part_covered)
          ∙ shape_union part q.pattern_at ∙ ap (union (shape part)) (sym (ap shape q.divisor_is ∙ standard_shape q.pattern_at))

      contexts : graft_ctx front shape ≡ graft_ctx front (λ x. leaf tt)
      contexts = same_ctx front shape (λ x. leaf tt) (graft part shape) (shape (join part))
          (sym (graft-fill front part shape) ∙ sym (graft_assoc (fill front part) self (λ x. leaf tt)) ∙ ctx_shape front part 1 second all_in second_in)

      starts : start 1 (graft_ctx front self) ≡ start {A = Unit {0}} 1 (graft_ctx front (λ x. leaf tt))
      starts = sym (start-named 1 (graft_ctx front self) (λ x. tt {0})) ∙ ap (start {A = Unit {0}} 1) (graft_ctx_assoc front self (λ x. leaf tt) ∙ contexts)

      top : (k : ℕ) (x : Tree (Tree ℕ)) → IsNode x → (rest : List ℕ) × (numbers self k x ≡ k ∷ rest)
      top k (leaf x) n = absurd n
      top k (node l r) n = (numbers_row self (suc k) r, refl)

      over : LiesOver tree a b second
      over = record {
        context = graft_ctx front (λ x. leaf tt);
        part = shape part;
        first_is = ap shape p.divisor_is ∙ standard_shape p.pattern_at ∙ ap shape is ∙ graft-fill front part (λ x. leaf tt);
        is_node = node_shape part is_node;
        tree_is = ap shape whole_is ∙ ctx_shape front part 1 second all_in second_in ∙ ap (fill (graft_ctx front (λ x. leaf tt))) part_shape;
        rest = (top (start 1 (graft_ctx front self)) q.pattern_at q.is_node).0;
        top_is = second_is ∙ (top (start 1 (graft_ctx front self)) q.pattern_at q.is_node).1
            ∙ ap (λ k. k ∷ (top (start 1 (graft_ctx front self)) q.pattern_at q.is_node).0) starts;
      }
        where
          node_shape : (x : Tree (Tree ℕ)) → IsNode x → IsNode (shape x)
          node_shape (leaf x) n = absurd n
          node_shape (node l r) n = tt

  lies_over : LiesOver tree a b second
  lies_over = go w.either
    where
      go : ((w.rest ≡ hole) × IsNode w.part) ⊎ ((x : Tree ℕ) × (w.part ≡ leaf x)) → LiesOver tree a b second
      go (inl h) = over w.front w.part w.rest w.is w.hole_is w.inner h.0 h.1
      go (inr h) = absurd (not_hanging w.front w.part w.rest w.is w.hole_is w.inner h.0 h.1)

-- a place with the root has no context
rooted : (tree x : Tree ℕ) (l : List ℕ) (p : IsCut tree l x) → Mem 1 l → p.context ≡ hole
rooted tree x l p m = let i = numbers_in self (start 1 p.context) p.pattern_at 1 (subst (Mem 1) p.set_is m) in at_top p.context i.0

-- where the first place has the root, the second lies over it
pub second_over_first : (n : ℕ) (a b tree : Tree ℕ) (first second : List ℕ) → IsOverlap n a b tree first second → Mem 1 first → LiesOver tree a b second
second_over_first n a b tree first second o m =
    let p = cut_of_place tree first a o.first_at in
    lies_over tree first second a b p (cut_of_place tree second b o.second_at) o.covers o.shared.0 o.shared.1 o.shared.2 (rooted tree a first p m)

-- the overlap seen from its second place
pub turned : (n : ℕ) (a b tree : Tree ℕ) (first second : List ℕ) → IsOverlap n a b tree first second → IsOverlap n b a tree second first
turned n a b tree first second o = record {
  valid = o.valid;
  first_at = o.second_at;
  second_at = o.first_at;
  shared = (o.shared.0, o.shared.2, o.shared.1);
  covers = λ v p l. swap (o.covers v p l);
}
  where
    swap : {P Q : Type 0} → P ⊎ Q → Q ⊎ P
    swap (inl p) = inr p
    swap (inr q) = inl q

-- the root is in one of the two places
pub root_covered : (n : ℕ) (a b tree : Tree ℕ) (first second : List ℕ) → IsOverlap n a b tree first second → Mem 1 first ⊎ Mem 1 second
root_covered n a b tree first second o = o.covers 1 (omega arith) (some_vertex o.shared.0 (cut_of_place tree first a o.first_at) o.shared.1)
  where
    some_vertex : (v : ℕ) (p : IsCut tree first a) → Mem v first → 1 ≤ vertices tree
    some_vertex v p m =
        let i = numbers_in self (start 1 p.context) p.pattern_at v (subst (Mem v) p.set_is m) in
        let s = start_in 1 p.context (join p.pattern_at) in
        let e : vertices tree ≡ vertices (fill p.context (join p.pattern_at)) = ap vertices p.host_is in
        omega (arith, i.0, i.1, s.0, s.1, e)

-- so the tree has one of the overlays for its shape
overlaid : (a b tree : Tree ℕ) (second : List ℕ) → LiesOver tree a b second → Mem (shape tree) (overlays (shape a) (shape b))
overlaid a b tree second h = subst (λ x. Mem x (overlays (shape a) (shape b))) (sym h.tree_is)
    (subst (λ x. Mem (fill h.context (union h.part (shape b))) (overlays x (shape b))) (sym h.first_is) (at_vertex h.context h.part (shape b) h.is_node))

-- each small common multiple has one of the candidate shapes
pub multiple_shape : (n : ℕ) (a b tree : Tree ℕ) (first second : List ℕ) → IsOverlap n a b tree first second → Mem (shape tree) (shapes_of a b)
multiple_shape n a b tree first second o = go (root_covered n a b tree first second o)
  where
    go : Mem 1 first ⊎ Mem 1 second → Mem (shape tree) (shapes_of a b)
    go (inl m) = mem_left (shape tree) (overlays (shape a) (shape b)) (overlays (shape b) (shape a)) (overlaid a b tree second (second_over_first n a b tree first second o m))
    go (inr m) = mem_right (shape tree) (overlays (shape a) (shape b)) (overlays (shape b) (shape a))
        (overlaid b a tree first (second_over_first n b a tree second first (turned n a b tree first second o) m))
