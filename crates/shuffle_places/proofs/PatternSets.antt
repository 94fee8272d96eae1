-- Connected sets of vertices are the sets of the patterns that lie in the tree.
use Rattle.std.proofs.Common.{◌≡◌, ◌≢◌, ℕ, suc, ◌+◌, ◌<◌, ◌≤◌, List, ◌∷◌, refl, sym, ap, arith, inl, inr, ◌⊎◌}
use mathlib.Core.List.{◌++◌}
use native.Mathlib.Decide.{ℕ_discrete, dec_lt}
use Rattle.labelled_trees.specs.Trees.{Tree, Row, leaf, node, none, more, graft, graft_row, join, IsNode, vertices, vertices_row}
use Rattle.labelled_trees.specs.Contexts.{Ctx, RowCtx, hole, inside, here, past, fill, fill_row, compose, compose_row}
use Rattle.shuffle_places.specs.Cuts.{numbers, numbers_row, start, start_row}
use Rattle.modular_sums.specs.Lists.{Mem, Rises}
use Rattle.shuffle_places.specs.Connected.{Edge, EdgeRow, IsConnected}
use Rattle.modular_sums.proofs.Lists.{Rises-append, mem_left, mem_right, mem_either}
use Rattle.shuffle_places.proofs.Vertices.{In, numbers_in, numbers_row_in}

pub node_has : {A : Type 0} (t : Tree A) → IsNode t → 0 < vertices t
node_has (leaf a) h = absurd h
node_has (node l r) h = omega arith

-- where the ends of an edge lie
abbrev InEdge : ℕ → ℕ → ℕ → ℕ → Type 0
InEdge k n p u = In p k n × In u k n × (p < u)

abbrev InEdgeRow : ℕ → ℕ → ℕ → ℕ → ℕ → Type 0
InEdgeRow up k n p u = ((p ≡ up) ⊎ In p k n) × In u k n × (p < u)

widen_left : (k m n p : ℕ) → In p k m → In p k (m + n)
widen_left k m n p h = omega (arith, h.0, h.1)

widen_right : (k m n p : ℕ) → In p (k + m) n → In p k (m + n)
widen_right k m n p h = omega (arith, h.0, h.1)

up_or : (up k m n p : ℕ) → (p ≡ up) ⊎ In p (k + m) n → (p ≡ up) ⊎ In p k (m + n)
up_or up k m n p (inl e) = inl e
up_or up k m n p (inr h) = inr (widen_right k m n p h)

up_in : (k n p : ℕ) → (p ≡ k) ⊎ In p (suc k) n → In p k (suc n)
up_in k n p (inl e) = omega arith
up_in k n p (inr h) = omega (arith, h.0, h.1)

mutual
  pub edge_in : {A : Type 0} (k : ℕ) (t : Tree A) (p u : ℕ) → Edge k t p u → InEdge k (vertices t) p u
  edge_in k (leaf a) p u h = absurd h
  edge_in k (node l r) p u h =
      let i = edge_row_in k (suc k) r p u (omega arith) h in
      (up_in k (vertices_row r) p i.0, omega (arith, i.1.0, i.1.1), i.2)

  pub edge_row_in : {A : Type 0} (up k : ℕ) (r : Row A) (p u : ℕ) → up < k → EdgeRow up k r p u → InEdgeRow up k (vertices_row r) p u
  edge_row_in up k none p u lt h = absurd h
  edge_row_in up k (more t r) p u lt (inl h) = (inl h.1, omega (arith, h.2, node_has t h.0), omega (arith, h.1, h.2))
  edge_row_in up k (more t r) p u lt (inr (inl h)) =
      let i = edge_in k t p u h in
      (inr (widen_left k (vertices t) (vertices_row r) p i.0), widen_left k (vertices t) (vertices_row r) u i.1, i.2)
  edge_row_in up k (more t r) p u lt (inr (inr h)) =
      let i = edge_row_in up (k + vertices t) r p u (omega arith) h in
      (up_or up k (vertices t) (vertices_row r) p i.0, widen_right k (vertices t) (vertices_row r) u i.1, i.2)

-- the vertex of each number
pub record At (A : Type 0) (k v : ℕ) (t : Tree A) : Type 0 where
  pub around : Ctx A
  pub what : Tree A
  pub is_node : IsNode what
  pub is : t ≡ fill around what
  pub start_is : start k around ≡ v

record AtRow (A : Type 0) (k v : ℕ) (r : Row A) : Type 0 where
  around : RowCtx A
  what : Tree A
  is_node : IsNode what
  is : r ≡ fill_row around what
  start_is : start_row k around ≡ v

at_node : {A : Type 0} (k v l : ℕ) (r : Row A) → Dec (v ≡ k) → (v ≢ k → AtRow A (suc k) v r) → At A k v (node l r)
at_node k v l r (yes e) f = record { around = hole; what = node l r; is_node = tt; is = refl; start_is = sym e }
at_node k v l r (no n) f = let a = f n in record { around = inside l a.around; what = a.what; is_node = a.is_node; is = ap (node l) a.is; start_is = a.start_is }

at_more : {A : Type 0} (k v : ℕ) (t : Tree A) (r : Row A) → Dec (v < k + vertices t) → (v < k + vertices t → At A k v t) → (k + vertices t ≤ v → AtRow A (k + vertices t) v r) → AtRow A k v (more t r)
at_more k v t r (yes h) f g = let a = f h in record { around = here a.around r; what = a.what; is_node = a.is_node; is = ap (λ x. more x r) a.is; start_is = a.start_is }
at_more k v t r (no h) f g = let a = g (omega (arith, h)) in record { around = past t a.around; what = a.what; is_node = a.is_node; is = ap (more t) a.is; start_is = a.start_is }

mutual
  pub vertex_at : {A : Type 0} (k v : ℕ) (t : Tree A) → In v k (vertices t) → At A k v t
  vertex_at k v (leaf a) h = absurd (omega (arith, h.0, h.1))
  vertex_at k v (node l r) h = at_node k v l r (ℕ_discrete v k) (λ n. vertex_at_row (suc k) v r (omega (arith, h.0, h.1, n)))

  vertex_at_row : {A : Type 0} (k v : ℕ) (r : Row A) → In v k (vertices_row r) → AtRow A k v r
  vertex_at_row k v none h = absurd (omega (arith, h.0, h.1))
  vertex_at_row k v (more t r) h = at_more k v t r (dec_lt v (k + vertices t)) (λ lt. vertex_at k v t (h.0, lt)) (λ le. vertex_at_row (k + vertices t) v r (le, omega (arith, h.1)))

-- what fills a context lies among the vertices of the whole
mutual
  pub start_in : {A : Type 0} (k : ℕ) (c : Ctx A) (x : Tree A) → (k ≤ start k c) × (start k c + vertices x ≤ k + vertices (fill c x))
  start_in k hole x = omega arith
  start_in k (inside l c) x = let i = start_row_in (suc k) c x in omega (arith, i.0, i.1)

  pub start_row_in : {A : Type 0} (k : ℕ) (c : RowCtx A) (x : Tree A) → (k ≤ start_row k c) × (start_row k c + vertices x ≤ k + vertices_row (fill_row c x))
  start_row_in k (here c r) x = let i = start_in k c x in omega (arith, i.0, i.1)
  start_row_in k (past t c) x = let i = start_row_in (k + vertices t) c x in omega (arith, i.0, i.1)

mutual
  -- an edge of what fills a context is one of the whole
  pub edge_fill : {A : Type 0} (k : ℕ) (c : Ctx A) (x : Tree A) (p u : ℕ) → Edge (start k c) x p u → Edge k (fill c x) p u
  edge_fill k hole x p u h = h
  edge_fill k (inside l c) x p u h = edge_fill_row k (suc k) c x p u h

  edge_fill_row : {A : Type 0} (up k : ℕ) (c : RowCtx A) (x : Tree A) (p u : ℕ) → Edge (start_row k c) x p u → EdgeRow up k (fill_row c x) p u
  edge_fill_row up k (here c r) x p u h = inr (inl (edge_fill k c x p u h))
  edge_fill_row up k (past t c) x p u h = inr (inr (edge_fill_row up (k + vertices t) c x p u h))

out_of_row : (up k m p s n e : ℕ) → up < k → (p ≡ up) ⊎ In p (k + m) n → In p s e → k ≤ s → s + e ≤ k + m → ⊥
out_of_row up k m p s n e lt (inl q) i a b = omega (arith, i.0, i.1)
out_of_row up k m p s n e lt (inr q) i a b = omega (arith, i.0, i.1, q.0)

mutual
  -- an edge of the whole from a vertex of what fills the context is one of what fills it
  pub edge_inside : {A : Type 0} (k : ℕ) (c : Ctx A) (x : Tree A) (p u : ℕ) → Edge k (fill c x) p u → In p (start k c) (vertices x) → Edge (start k c) x p u
  edge_inside k hole x p u h i = h
  edge_inside k (inside l c) x p u h i = edge_inside_row k (suc k) c x p u (omega arith) h i

  edge_inside_row : {A : Type 0} (up k : ℕ) (c : RowCtx A) (x : Tree A) (p u : ℕ) → up < k → EdgeRow up k (fill_row c x) p u → In p (start_row k c) (vertices x) → Edge (start_row k c) x p u
  edge_inside_row up k (here c r) x p u lt (inl h) i = let s = start_in k c x in absurd (omega (arith, s.0, i.0, h.1))
  edge_inside_row up k (here c r) x p u lt (inr (inl h)) i = edge_inside k c x p u h i
  edge_inside_row up k (here c r) x p u lt (inr (inr h)) i =
      let s = start_in k c x in
      absurd (out_of_row up k (vertices (fill c x)) p (start k c) (vertices_row r) (vertices x) lt (edge_row_in up (k + vertices (fill c x)) r p u (omega arith) h).0 i s.0 s.1)
  edge_inside_row up k (past t c) x p u lt (inl h) i = let s = start_row_in (k + vertices t) c x in absurd (omega (arith, s.0, i.0, h.1))
  edge_inside_row up k (past t c) x p u lt (inr (inl h)) i = let s = start_row_in (k + vertices t) c x in let e = edge_in k t p u h in absurd (omega (arith, s.0, i.0, e.0.1))
  edge_inside_row up k (past t c) x p u lt (inr (inr h)) i = edge_inside_row up (k + vertices t) c x p u (omega arith) h i

mutual
  pub numbers_rise : {X A : Type 0} (s : X → Tree A) (k : ℕ) (p : Tree X) → Rises (numbers s k p)
  numbers_rise s k (leaf x) = tt
  numbers_rise s k (node l r) = (λ u m. let i = numbers_row_in s (suc k) r u m in omega (arith, i.0), numbers_row_rise s (suc k) r)

  numbers_row_rise : {X A : Type 0} (s : X → Tree A) (k : ℕ) (r : Row X) → Rises (numbers_row s k r)
  numbers_row_rise s k none = tt
  numbers_row_rise s k (more t r) = Rises-append (numbers s k t) (numbers_row s (k + vertices (graft t s)) r) (numbers_rise s k t) (numbers_row_rise s (k + vertices (graft t s)) r)
      (λ u v m n. let i = numbers_in s k t u m in let j = numbers_row_in s (k + vertices (graft t s)) r v n in omega (arith, i.1, j.0))

graft_node : {X A : Type 0} (s : X → Tree A) (k : ℕ) (t : Tree X) (u : ℕ) → Mem u (numbers s k t) → IsNode (graft t s)
graft_node s k (leaf x) u m = absurd m
graft_node s k (node l r) u m = tt

abbrev Parent : {A : Type 0} → ℕ → Tree A → List ℕ → ℕ → Type 0
Parent k t l u = (p : ℕ) × Mem p l × Edge k t p u

abbrev ParentRow : {A : Type 0} → ℕ → ℕ → Row A → List ℕ → ℕ → Type 0
ParentRow up k r l u = (p : ℕ) × ((p ≡ up) ⊎ Mem p l) × EdgeRow up k r p u

in_first : {A : Type 0} (up k : ℕ) (t : Tree A) (r : Row A) (l m : List ℕ) (u : ℕ) → IsNode t → (u ≡ k) ⊎ Parent k t l u → ParentRow up k (more t r) (l ++ m) u
in_first up k t r l m u n (inl e) = (up, inl refl, inl (n, refl, e))
in_first up k t r l m u n (inr h) = (h.0, inr (mem_left h.0 l m h.1), inr (inl h.2))

in_rest : {A : Type 0} (up k : ℕ) (t : Tree A) (r : Row A) (l m : List ℕ) (u : ℕ) → ParentRow up (k + vertices t) r m u → ParentRow up k (more t r) (l ++ m) u
in_rest up k t r l m u h = (h.0, carry h.1, inr (inr h.2))
  where
    carry : (h.0 ≡ up) ⊎ Mem h.0 m → (h.0 ≡ up) ⊎ Mem h.0 (l ++ m)
    carry (inl e) = inl e
    carry (inr n) = inr (mem_right h.0 l m n)

either_input : {A : Type 0} (up k : ℕ) (t : Tree A) (r : Row A) (l m : List ℕ) (u : ℕ) → (Mem u l → IsNode t × ((u ≡ k) ⊎ Parent k t l u)) → (Mem u m → ParentRow up (k + vertices t) r m u)
    → Mem u l ⊎ Mem u m → ParentRow up k (more t r) (l ++ m) u
either_input up k t r l m u f g (inl h) = let a = f h in in_first up k t r l m u a.0 a.1
either_input up k t r l m u f g (inr h) = in_rest up k t r l m u (g h)

at_root : {A : Type 0} (k l : ℕ) (r : Row A) (m : List ℕ) (u : ℕ) → ParentRow k (suc k) r m u → Parent k (node l r) (k ∷ m) u
at_root k l r m u h = (h.0, h.1, h.2)

mutual
  -- each vertex of a pattern but its root stands directly below another
  pub numbers_below : {X A : Type 0} (s : X → Tree A) (k : ℕ) (p : Tree X) (u : ℕ) → Mem u (numbers s k p) → (u ≡ k) ⊎ Parent k (graft p s) (numbers s k p) u
  numbers_below s k (leaf x) u h = absurd h
  numbers_below s k (node l r) u (inl e) = inl e
  numbers_below s k (node l r) u (inr h) = inr (at_root k l (graft_row r s) (numbers_row s (suc k) r) u (numbers_row_below s k (suc k) r u h))

  numbers_row_below : {X A : Type 0} (s : X → Tree A) (up k : ℕ) (r : Row X) (u : ℕ) → Mem u (numbers_row s k r) → ParentRow up k (graft_row r s) (numbers_row s k r) u
  numbers_row_below s up k none u h = absurd h
  numbers_row_below s up k (more t r) u h =
      either_input up k (graft t s) (graft_row r s) (numbers s k t) (numbers_row s (k + vertices (graft t s)) r) u
      (λ m. (graft_node s k t u m, numbers_below s k t u m)) (λ m. numbers_row_below s up (k + vertices (graft t s)) r u m)
      (mem_either u (numbers s k t) (numbers_row s (k + vertices (graft t s)) r) h)

-- the set of a pattern that lies in a tree is connected
pub numbers_connected : {A : Type 0} (c : Ctx A) (p : Tree (Tree A)) → IsNode p → IsConnected (fill c (join p)) (numbers (λ v. v) (start 1 c) p)
numbers_connected c (leaf x) n = absurd n
numbers_connected {A = A} c (node l r) n = record {
  top = start 1 c;
  rest = numbers_row (λ v. v) (suc (start 1 c)) r;
  is = refl;
  rises = numbers_rise (λ v. v) (start 1 c) (node l r);
  is_vertex = let i = start_in 1 c (join (node l r)) in (omega (arith, i.0), omega (arith, i.1));
  below = λ u m. lift u (not_root u m (numbers_below (λ v. v) (start 1 c) (node l r) u (inr m)));
}
  where
    not_root : (u : ℕ) → Mem u (numbers_row (λ v. v) (suc (start 1 c)) r) → (u ≡ start 1 c) ⊎ Parent (start 1 c) (join (node l r)) (numbers (λ v. v) (start 1 c) (node l r)) u
        → Parent (start 1 c) (join (node l r)) (numbers (λ v. v) (start 1 c) (node l r)) u
    not_root u m (inl e) = let i = numbers_row_in (λ v. v) (suc (start 1 c)) r u m in absurd (omega (arith, i.0))
    not_root u m (inr h) = h

    lift : (u : ℕ) → Parent (start 1 c) (join (node l r)) (numbers (λ v. v) (start 1 c) (node l r)) u → (q : ℕ) × Mem q (numbers (λ v. v) (start 1 c) (node l r)) × Edge 1 (fill c (join (node l r))) q u
    lift u h = (h.0, h.1, edge_fill 1 c (join (node l r)) h.0 u h.2)

mutual
  pub start_from : {A : Type 0} (k : ℕ) (c : Ctx A) → k ≤ start k c
  start_from k hole = omega arith
  start_from k (inside l c) = omega (arith, start_row_from (suc k) c)

  pub start_row_from : {A : Type 0} (k : ℕ) (c : RowCtx A) → k ≤ start_row k c
  start_row_from k (here c r) = start_from k c
  start_row_from k (past t c) = omega (arith, start_row_from (k + vertices t) c)

mutual
  pub start-compose : {A : Type 0} (k : ℕ) (c d : Ctx A) → start k (compose c d) ≡ start (start k c) d
  start-compose k hole d = refl
  start-compose k (inside l c) d = start_row-compose (suc k) c d

  pub start_row-compose : {A : Type 0} (k : ℕ) (c : RowCtx A) (d : Ctx A) → start_row k (compose_row c d) ≡ start (start_row k c) d
  start_row-compose k (here c r) d = start-compose k c d
  start_row-compose k (past t c) d = start_row-compose (k + vertices t) c d
