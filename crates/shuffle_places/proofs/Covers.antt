-- Which vertices two patterns have, and which a context.
use Rattle.std.proofs.Common.{◌≡◌, ℕ, suc, ◌+◌, ◌<◌, ◌≤◌, List, ◌∷◌, refl, arith, subst, inl, inr, ◌⊎◌}
use mathlib.Core.List.{◌++◌}
use native.Mathlib.Decide.{ℕ_discrete, dec_lt}
use Rattle.modular_sums.specs.Lists.{Mem}
use Rattle.labelled_trees.specs.Trees.{Tree, Row, leaf, node, none, more, graft, graft_row, join, IsNode, IsLeaf, vertices, vertices_row}
use Rattle.labelled_trees.specs.Contexts.{Ctx, RowCtx, hole, inside, here, past, fill, fill_row, graft_ctx, graft_row_ctx}
use Rattle.labelled_trees.specs.Unions.{union, union_row}
use Rattle.labelled_trees.specs.Leaves.{AllLeaves, AllRow, one_if, occurs, occurs_row}
use Rattle.shuffle_places.specs.Cuts.{numbers, numbers_row, start, start_row}
use Rattle.labelled_trees.proofs.Contexts.{node-eq, more-eq}
use Rattle.labelled_trees.proofs.Leaves.{by_leaf, by_row}
use Rattle.labelled_trees.proofs.ContextLeaves.{sum_of_fill, sum_of_fill_row}
use Rattle.modular_sums.proofs.Lists.{mem_left, mem_right}
use Rattle.shuffle_places.proofs.Vertices.{In}

leaf_none : {A : Type 0} (y : Tree A) → IsLeaf y → vertices y ≡ 0
leaf_none (leaf a) h = refl
leaf_none (node l r) h = absurd h

in_input : (P : Type 0) (v k m n : ℕ) → Dec (v < k + m) → In v k (m + n) → (In v k m → P) → (In v (k + m) n → P) → P
in_input P v k m n (yes lt) i f g = f (i.0, lt)
in_input P v k m n (no ge) i f g = g (omega (arith, ge), omega (arith, i.1))

mutual
  -- where all hanging parts are leaves, the pattern has all vertices
  pub all_bare : {X A : Type 0} (s : X → Tree A) (t : Tree X) (k v : ℕ) → AllLeaves t (λ x. IsLeaf (s x)) → In v k (vertices (graft t s)) → Mem v (numbers s k t)
  all_bare s (leaf x) k v h i = let z = leaf_none (s x) h in absurd (omega (arith, z, i.0, i.1))
  all_bare s (node l r) k v h i = at_node (ℕ_discrete v k) (λ j. all_bare_row s r (suc k) v h j)
    where
      at_node : Dec (v ≡ k) → (In v (suc k) (vertices_row (graft_row r s)) → Mem v (numbers_row s (suc k) r)) → (v ≡ k) ⊎ Mem v (numbers_row s (suc k) r)
      at_node (yes e) f = inl e
      at_node (no n) f = inr (f (omega (arith, i.0, i.1, n)))

  all_bare_row : {X A : Type 0} (s : X → Tree A) (r : Row X) (k v : ℕ) → AllRow r (λ x. IsLeaf (s x)) → In v k (vertices_row (graft_row r s)) → Mem v (numbers_row s k r)
  all_bare_row s none k v h i = absurd (omega (arith, i.0, i.1))
  all_bare_row s (more t r) k v h i =
      in_input (Mem v (numbers s k t ++ numbers_row s (k + vertices (graft t s)) r)) v k (vertices (graft t s)) (vertices_row (graft_row r s)) (dec_lt v (k + vertices (graft t s))) i
      (λ j. mem_left v (numbers s k t) (numbers_row s (k + vertices (graft t s)) r) (all_bare s t k v h.0 j))
      (λ j. mem_right v (numbers s k t) (numbers_row s (k + vertices (graft t s)) r) (all_bare_row s r (k + vertices (graft t s)) v h.1 j))

both_left : (v : ℕ) (a b c d : List ℕ) → Mem v a ⊎ Mem v b → Mem v (a ++ c) ⊎ Mem v (b ++ d)
both_left v a b c d (inl h) = inl (mem_left v a c h)
both_left v a b c d (inr h) = inr (mem_left v b d h)

both_right : (v : ℕ) (a b c d : List ℕ) → Mem v c ⊎ Mem v d → Mem v (a ++ c) ⊎ Mem v (b ++ d)
both_right v a b c d (inl h) = inl (mem_right v a c h)
both_right v a b c d (inr h) = inr (mem_right v b d h)

abbrev pub self : Tree ℕ → Tree ℕ
self v = v

mutual
  -- where the union of two patterns has leaves alone as hanging parts, each vertex is in one of them
  pub union_covers : (p q : Tree (Tree ℕ)) (k v : ℕ) → join p ≡ join q → AllLeaves (union p q) IsLeaf → In v k (vertices (join p)) → Mem v (numbers self k p) ⊎ Mem v (numbers self k q)
  union_covers (leaf t) q k v e h i = inr (all_bare self q k v h (subst (λ x. In v k (vertices x)) e i))
  union_covers (node l r) (leaf u) k v e h i = inl (all_bare self (node l r) k v h i)
  union_covers (node l r) (node m s) k v e h i = at_node (ℕ_discrete v k) (λ j. union_row_covers r s (suc k) v (node-eq l m (graft_row r self) (graft_row s self) e).1 h j)
    where
      widen : Mem v (numbers_row self (suc k) r) ⊎ Mem v (numbers_row self (suc k) s) → Mem v (k ∷ numbers_row self (suc k) r) ⊎ Mem v (k ∷ numbers_row self (suc k) s)
      widen (inl g) = inl (inr g)
      widen (inr g) = inr (inr g)

      at_node : Dec (v ≡ k) → (In v (suc k) (vertices_row (graft_row r self)) → Mem v (numbers_row self (suc k) r) ⊎ Mem v (numbers_row self (suc k) s))
          → Mem v (k ∷ numbers_row self (suc k) r) ⊎ Mem v (k ∷ numbers_row self (suc k) s)
      at_node (yes d) f = inl (inl d)
      at_node (no n) f = widen (f (omega (arith, i.0, i.1, n)))

  pub union_row_covers : (r s : Row (Tree ℕ)) (k v : ℕ) → graft_row r self ≡ graft_row s self → AllRow (union_row r s) IsLeaf → In v k (vertices_row (graft_row r self)) → Mem v (numbers_row self k r) ⊎ Mem v (numbers_row self k s)
  union_row_covers none s k v e h i = absurd (omega (arith, i.0, i.1))
  union_row_covers (more t r) none k v e h i = absurd (cc e)
  union_row_covers (more t r) (more u s) k v e h i =
      let d = more-eq (graft t self) (graft u self) (graft_row r self) (graft_row s self) e in
      subst (λ x. Mem v (numbers self k t ++ numbers_row self (k + vertices (graft t self)) r) ⊎ Mem v (numbers self k u ++ numbers_row self (k + vertices x) s)) d.0
      (in_input (Mem v (numbers self k t ++ numbers_row self (k + vertices (graft t self)) r) ⊎ Mem v (numbers self k u ++ numbers_row self (k + vertices (graft t self)) s))
      v k (vertices (graft t self)) (vertices_row (graft_row r self)) (dec_lt v (k + vertices (graft t self))) i
      (λ j. both_left v (numbers self k t) (numbers self k u) (numbers_row self (k + vertices (graft t self)) r) (numbers_row self (k + vertices (graft t self)) s) (union_covers t u k v d.0 h.0 j))
      (λ j. both_right v (numbers self k t) (numbers self k u) (numbers_row self (k + vertices (graft t self)) r) (numbers_row self (k + vertices (graft t self)) s)
      (union_row_covers r s (k + vertices (graft t self)) v d.1 h.1 j)))

mutual
  -- the numbers of a part of a pattern are among those of the pattern
  pub numbers_fill : (s : ℕ → Tree ℕ) (k : ℕ) (c : Ctx ℕ) (x : Tree ℕ) (v : ℕ) → Mem v (numbers s (start k (graft_ctx c s)) x) → Mem v (numbers s k (fill c x))
  numbers_fill s k hole x v h = h
  numbers_fill s k (inside l c) x v h = inr (numbers_fill_row s (suc k) c x v h)

  pub numbers_fill_row : (s : ℕ → Tree ℕ) (k : ℕ) (c : RowCtx ℕ) (x : Tree ℕ) (v : ℕ) → Mem v (numbers s (start_row k (graft_row_ctx c s)) x) → Mem v (numbers_row s k (fill_row c x))
  numbers_fill_row s k (here c r) x v h = mem_left v (numbers s k (fill c x)) (numbers_row s (k + vertices (graft (fill c x) s)) r) (numbers_fill s k c x v h)
  numbers_fill_row s k (past t c) x v h = mem_right v (numbers s k t) (numbers_row s (k + vertices (graft t s)) (fill_row c x)) (numbers_fill_row s (k + vertices (graft t s)) c x v h)

left_member : (v : ℕ) (a c : List ℕ) (Q : Type 0) → Mem v a ⊎ Q → Mem v (a ++ c) ⊎ Q
left_member v a c Q (inl h) = inl (mem_left v a c h)
left_member v a c Q (inr h) = inr h

right_member : (v : ℕ) (a c : List ℕ) (Q : Type 0) → Mem v c ⊎ Q → Mem v (a ++ c) ⊎ Q
right_member v a c Q (inl h) = inl (mem_right v a c h)
right_member v a c Q (inr h) = inr h

mutual
  -- where the parts beside what fills the context are leaves, the vertices outside it are the pattern's
  pub ctx_covers : (s : ℕ → Tree ℕ) (k : ℕ) (c : Ctx ℕ) (x : Tree ℕ) (v : ℕ) → ((i : ℕ) → occurs i (fill c x) ≤ 1) → ((i : ℕ) → occurs i x ≡ 0 → IsLeaf (s i))
      → In v k (vertices (graft (fill c x) s)) → Mem v (numbers s k (fill c x)) ⊎ In v (start k (graft_ctx c s)) (vertices (graft x s))
  ctx_covers s k hole x v o b i = inr i
  ctx_covers s k (inside l c) x v o b i = at_node (ℕ_discrete v k) (λ j. ctx_row_covers s (suc k) c x v o b j)
    where
      widen : Mem v (numbers_row s (suc k) (fill_row c x)) ⊎ In v (start_row (suc k) (graft_row_ctx c s)) (vertices (graft x s))
          → Mem v (k ∷ numbers_row s (suc k) (fill_row c x)) ⊎ In v (start_row (suc k) (graft_row_ctx c s)) (vertices (graft x s))
      widen (inl g) = inl (inr g)
      widen (inr g) = inr g

      at_node : Dec (v ≡ k) → (In v (suc k) (vertices_row (graft_row (fill_row c x) s)) → Mem v (numbers_row s (suc k) (fill_row c x)) ⊎ In v (start_row (suc k) (graft_row_ctx c s)) (vertices (graft x s)))
          → Mem v (k ∷ numbers_row s (suc k) (fill_row c x)) ⊎ In v (start_row (suc k) (graft_row_ctx c s)) (vertices (graft x s))
      at_node (yes d) f = inl (inl d)
      at_node (no n) f = widen (f (omega (arith, i.0, i.1, n)))

  pub ctx_row_covers : (s : ℕ → Tree ℕ) (k : ℕ) (c : RowCtx ℕ) (x : Tree ℕ) (v : ℕ) → ((i : ℕ) → occurs_row i (fill_row c x) ≤ 1) → ((i : ℕ) → occurs i x ≡ 0 → IsLeaf (s i))
      → In v k (vertices_row (graft_row (fill_row c x) s)) → Mem v (numbers_row s k (fill_row c x)) ⊎ In v (start_row k (graft_row_ctx c s)) (vertices (graft x s))
  ctx_row_covers s k (here c r) x v o b i =
      in_input (Mem v (numbers s k (fill c x) ++ numbers_row s (k + vertices (graft (fill c x) s)) r) ⊎ In v (start k (graft_ctx c s)) (vertices (graft x s)))
      v k (vertices (graft (fill c x) s)) (vertices_row (graft_row r s)) (dec_lt v (k + vertices (graft (fill c x) s))) i
      (λ j. left_member v (numbers s k (fill c x)) (numbers_row s (k + vertices (graft (fill c x) s)) r) (In v (start k (graft_ctx c s)) (vertices (graft x s)))
      (ctx_covers s k c x v (λ m. omega (arith, o m)) b j))
      (λ j. inl (mem_right v (numbers s k (fill c x)) (numbers_row s (k + vertices (graft (fill c x) s)) r)
      (all_bare_row s r (k + vertices (graft (fill c x) s)) v
      (by_row r (λ m. IsLeaf (s m)) (λ m p. b m (let q = sum_of_fill c x (λ n. one_if (ℕ_discrete n m)) in omega (arith, o m, q, p)))) j)))
  ctx_row_covers s k (past t c) x v o b i =
      in_input (Mem v (numbers s k t ++ numbers_row s (k + vertices (graft t s)) (fill_row c x)) ⊎ In v (start_row (k + vertices (graft t s)) (graft_row_ctx c s)) (vertices (graft x s)))
      v k (vertices (graft t s)) (vertices_row (graft_row (fill_row c x) s)) (dec_lt v (k + vertices (graft t s))) i
      (λ j. inl (mem_left v (numbers s k t) (numbers_row s (k + vertices (graft t s)) (fill_row c x))
      (all_bare s t k v (by_leaf t (λ m. IsLeaf (s m)) (λ m p. b m (let q = sum_of_fill_row c x (λ n. one_if (ℕ_discrete n m)) in omega (arith, o m, q, p)))) j)))
      (λ j. right_member v (numbers s k t) (numbers_row s (k + vertices (graft t s)) (fill_row c x)) (In v (start_row (k + vertices (graft t s)) (graft_row_ctx c s)) (vertices (graft x s)))
      (ctx_row_covers s (k + vertices (graft t s)) c x v (λ m. omega (arith, o m)) b j))

mutual
  pub fill_one : {A : Type 0} (c : Ctx A) (x y : Tree A) → fill c x ≡ fill c y → x ≡ y
  fill_one hole x y e = e
  fill_one (inside l c) x y e = fill_row_one c x y (node-eq l l (fill_row c x) (fill_row c y) e).1

  pub fill_row_one : {A : Type 0} (c : RowCtx A) (x y : Tree A) → fill_row c x ≡ fill_row c y → x ≡ y
  fill_row_one (here c r) x y e = fill_one c x y (more-eq (fill c x) (fill c y) r r e).0
  fill_row_one (past t c) x y e = fill_row_one c x y (more-eq t t (fill_row c x) (fill_row c y) e).1

-- the root has the first number
pub root_mem : {X A : Type 0} (s : X → Tree A) (k : ℕ) (t : Tree X) → IsNode t → Mem k (numbers s k t)
root_mem s k (leaf a) n = absurd n
root_mem s k (node l r) n = inl refl
