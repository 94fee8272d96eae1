-- Each connected set of vertices is the set of exactly one context and pattern.
use Rattle.std.proofs.Common.{◌≡◌, ℕ, zero, suc, ◌+◌, ◌<◌, List, Bool, true, false, refl, sym, ◌∙◌, ap, arith, subst, inl, inr, ◌⊎◌}
use mathlib.Core.List.{◌++◌}
use mathlib.Core.Path.{ap₂}
use Rattle.labelled_trees.specs.Trees.{Tree, Row, leaf, node, none, more, graft, join, IsNode, vertices, vertices_row}
use Rattle.labelled_trees.specs.Contexts.{Ctx, RowCtx, hole, inside, here, past, fill, fill_row}
use Rattle.shuffle_insertions.specs.ShuffleTrees.{least}
use Rattle.labelled_trees.specs.Ranks.{standard}
use Rattle.shuffle_places.specs.Cuts.{numbers, numbers_row, start, start_row, IsCut}
use Rattle.modular_sums.specs.Lists.{has, Mem}
use Rattle.shuffle_places.specs.Connected.{Edge, EdgeRow, IsConnected}
use Rattle.labelled_trees.proofs.Grafts.{graft_leaf}
use Rattle.labelled_trees.proofs.Contexts.{node-eq, more-eq}
use Rattle.modular_sums.proofs.Lists.{same_rising, mem_has, has_mem, tail_same, mem_left, mem_right, mem_either}
use Rattle.shuffle_places.proofs.Vertices.{In, numbers_in, numbers_row_in, join-cut, join-cut_row, cut-numbers}
use Rattle.shuffle_places.proofs.PatternSets.{At, vertex_at, edge_in, edge_row_in, edge_inside, start_in, start_row_in, node_has, numbers_rise, numbers_connected}
use Rattle.shuffle_places.specs.Places.{cut, cut_row}

both_members : (P : Type 0) (u : ℕ) (k l : List ℕ) → (Mem u k → P) → (Mem u l → P) → Mem u k ⊎ Mem u l → P
both_members P u k l f g (inl m) = f m
both_members P u k l f g (inr m) = g m

carried : (p up : ℕ) (k l : List ℕ) → k ≡ l → (p ≡ up) ⊎ Mem p k → (p ≡ up) ⊎ Mem p l
carried p up k l e (inl h) = inl h
carried p up k l e (inr h) = inr (subst (Mem p) e h)

module _ {A : Type 0} (b : ℕ → Bool) where
  -- the numbers of what is cut
  abbrev nums : ℕ → Tree (Tree A) → List ℕ
  nums k p = numbers (λ v. v) k p

  abbrev nums_row : ℕ → Row (Tree A) → List ℕ
  nums_row k r = numbers_row (λ v. v) k r

  abbrev choice : ℕ → ℕ → Row A → Bool → Tree (Tree A)
  choice k l r d = elim d [ true ↦ node l (cut_row b (suc k) r) | false ↦ leaf (node l r) ]

  row_is : (k : ℕ) (t : Tree A) (r : Row A) → nums_row k (cut_row b k (more t r)) ≡ nums k (cut b k t) ++ nums_row (k + vertices t) (cut_row b (k + vertices t) r)
  row_is k t r = ap (λ x. nums k (cut b k t) ++ nums_row (k + vertices x) (cut_row b (k + vertices t) r)) (join-cut b k t)

  at_choice : (k l : ℕ) (r : Row A) (d : Bool) → b k ≡ d → ((u : ℕ) → Mem u (nums_row (suc k) (cut_row b (suc k) r)) → b u ≡ true) → (u : ℕ) → Mem u (nums k (choice k l r d)) → b u ≡ true
  at_choice k l r true e ih u (inl h) = ap b h ∙ e
  at_choice k l r true e ih u (inr h) = ih u h
  at_choice k l r false e ih u h = absurd h

  mutual
    cut_mem : (k : ℕ) (t : Tree A) (u : ℕ) → Mem u (nums k (cut b k t)) → b u ≡ true
    cut_mem k (leaf a) u h = absurd h
    cut_mem k (node l r) u h = at_choice k l r (b k) refl (λ v m. cut_row_mem (suc k) r v m) u h

    cut_row_mem : (k : ℕ) (r : Row A) (u : ℕ) → Mem u (nums_row k (cut_row b k r)) → b u ≡ true
    cut_row_mem k none u h = absurd h
    cut_row_mem k (more t r) u h =
        both_members (b u ≡ true) u (nums k (cut b k t)) (nums_row (k + vertices t) (cut_row b (k + vertices t) r)) (λ m. cut_mem k t u m) (λ m. cut_row_mem (k + vertices t) r u m)
        (mem_either u (nums k (cut b k t)) (nums_row (k + vertices t) (cut_row b (k + vertices t) r)) (subst (Mem u) (row_is k t r) h))

  root_choice : (k l : ℕ) (r : Row A) (d : Bool) → b k ≡ d → b k ≡ true → Mem k (nums k (choice k l r d))
  root_choice k l r true e h = inl refl
  root_choice k l r false e h = absurd (cc (e, h))

  cut_root : (k : ℕ) (t : Tree A) → IsNode t → b k ≡ true → Mem k (nums k (cut b k t))
  cut_root k (leaf a) n h = absurd n
  cut_root k (node l r) n h = root_choice k l r (b k) refl h

  node_choice : (k l : ℕ) (r : Row A) (d : Bool) → b k ≡ d → b k ≡ true → IsNode (choice k l r d)
  node_choice k l r true e h = tt
  node_choice k l r false e h = absurd (cc (e, h))

  cut_node : (k : ℕ) (t : Tree A) → IsNode t → b k ≡ true → IsNode (cut b k t)
  cut_node k (leaf a) n h = absurd n
  cut_node k (node l r) n h = node_choice k l r (b k) refl h

  edge_choice : (k l : ℕ) (r : Row A) (p u : ℕ) (d : Bool) → b k ≡ d
      → ((p ≡ k) ⊎ Mem p (nums_row (suc k) (cut_row b (suc k) r)) → Mem u (nums_row (suc k) (cut_row b (suc k) r))) → Mem p (nums k (choice k l r d)) → Mem u (nums k (choice k l r d))
  edge_choice k l r p u true e ih h = inr (ih h)
  edge_choice k l r p u false e ih h = absurd h

  cut_in : (k : ℕ) (t : Tree A) (u : ℕ) → Mem u (nums k (cut b k t)) → In u k (vertices t)
  cut_in k t u m = subst (λ x. In u k (vertices x)) (join-cut b k t) (numbers_in (λ v. v) k (cut b k t) u m)

  cut_row_in : (k : ℕ) (r : Row A) (u : ℕ) → Mem u (nums_row k (cut_row b k r)) → In u k (vertices_row r)
  cut_row_in k r u m = subst (λ x. In u k (vertices_row x)) (join-cut_row b k r) (numbers_row_in (λ v. v) k (cut_row b k r) u m)

  -- an edge of the first input
  from_first : (up k : ℕ) (t : Tree A) (r : Row A) (p u : ℕ) → up < k → Edge k t p u → (Mem p (nums k (cut b k t)) → Mem u (nums k (cut b k t)))
      → (p ≡ up) ⊎ Mem p (nums k (cut b k t) ++ nums_row (k + vertices t) (cut_row b (k + vertices t) r)) → Mem u (nums k (cut b k t))
  from_first up k t r p u lt h ih (inl e) = let i = edge_in k t p u h in absurd (omega (arith, i.0.0))
  from_first up k t r p u lt h ih (inr m) = go (mem_either p (nums k (cut b k t)) (nums_row (k + vertices t) (cut_row b (k + vertices t) r)) m)
    where
      go : Mem p (nums k (cut b k t)) ⊎ Mem p (nums_row (k + vertices t) (cut_row b (k + vertices t) r)) → Mem u (nums k (cut b k t))
      go (inl n) = ih n
      go (inr n) = let i = edge_in k t p u h in let j = cut_row_in (k + vertices t) r p n in absurd (omega (arith, i.0.1, j.0))

  -- an edge of a further input
  from_rest : (up k : ℕ) (t : Tree A) (r : Row A) (p u : ℕ) → up < k → EdgeRow up (k + vertices t) r p u
      → ((p ≡ up) ⊎ Mem p (nums_row (k + vertices t) (cut_row b (k + vertices t) r)) → Mem u (nums_row (k + vertices t) (cut_row b (k + vertices t) r)))
      → (p ≡ up) ⊎ Mem p (nums k (cut b k t) ++ nums_row (k + vertices t) (cut_row b (k + vertices t) r)) → Mem u (nums_row (k + vertices t) (cut_row b (k + vertices t) r))
  from_rest up k t r p u lt h ih (inl e) = ih (inl e)
  from_rest up k t r p u lt h ih (inr m) = go (mem_either p (nums k (cut b k t)) (nums_row (k + vertices t) (cut_row b (k + vertices t) r)) m)
    where
      no_way : (p ≡ up) ⊎ In p (k + vertices t) (vertices_row r) → Mem p (nums k (cut b k t)) → ⊥
      no_way (inl e) n = let j = cut_in k t p n in omega (arith, j.0)
      no_way (inr i) n = let j = cut_in k t p n in omega (arith, j.1, i.0)

      go : Mem p (nums k (cut b k t)) ⊎ Mem p (nums_row (k + vertices t) (cut_row b (k + vertices t) r)) → Mem u (nums_row (k + vertices t) (cut_row b (k + vertices t) r))
      go (inl n) = absurd (no_way (edge_row_in up (k + vertices t) r p u (omega arith) h).0 n)
      go (inr n) = ih (inr n)

  mutual
    -- what stands directly below a vertex of what is cut, and is in the set, is in what is cut
    cut_edge : (k : ℕ) (t : Tree A) (p u : ℕ) → b u ≡ true → Edge k t p u → Mem p (nums k (cut b k t)) → Mem u (nums k (cut b k t))
    cut_edge k (leaf a) p u h e m = absurd e
    cut_edge k (node l r) p u h e m = edge_choice k l r p u (b k) refl (λ q. cut_row_edge k (suc k) r p u (omega arith) h e q) m

    cut_row_edge : (up k : ℕ) (r : Row A) (p u : ℕ) → up < k → b u ≡ true → EdgeRow up k r p u → (p ≡ up) ⊎ Mem p (nums_row k (cut_row b k r)) → Mem u (nums_row k (cut_row b k r))
    cut_row_edge up k none p u lt h e m = absurd e
    cut_row_edge up k (more t r) p u lt h (inl e) m = subst (Mem u) (sym (row_is k t r)) (mem_left u (nums k (cut b k t)) (nums_row (k + vertices t) (cut_row b (k + vertices t) r))
        (subst (λ v. Mem v (nums k (cut b k t))) (sym e.2) (cut_root k t e.0 (ap b (sym e.2) ∙ h))))
    cut_row_edge up k (more t r) p u lt h (inr (inl e)) m = subst (Mem u) (sym (row_is k t r)) (mem_left u (nums k (cut b k t)) (nums_row (k + vertices t) (cut_row b (k + vertices t) r))
        (from_first up k t r p u lt e (λ n. cut_edge k t p u h e n)
        (carried p up (nums_row k (cut_row b k (more t r))) (nums k (cut b k t) ++ nums_row (k + vertices t) (cut_row b (k + vertices t) r)) (row_is k t r) m)))
    cut_row_edge up k (more t r) p u lt h (inr (inr e)) m = subst (Mem u) (sym (row_is k t r)) (mem_right u (nums k (cut b k t)) (nums_row (k + vertices t) (cut_row b (k + vertices t) r))
        (from_rest up k t r p u lt e (λ n. cut_row_edge up (k + vertices t) r p u (omega arith) h e n)
        (carried p up (nums_row k (cut_row b k (more t r))) (nums k (cut b k t) ++ nums_row (k + vertices t) (cut_row b (k + vertices t) r)) (row_is k t r) m)))

-- a context and a pattern whose vertices are the set
pub record Cut (A : Type 0) (host : Tree A) (set : List ℕ) : Type 0 where
  pub context : Ctx A
  pub pattern_at : Tree (Tree A)
  pub is_node : IsNode pattern_at
  pub host_is : host ≡ fill context (join pattern_at)
  pub set_is : set ≡ numbers (λ v. v) (start 1 context) pattern_at

module _ (A : Type 0) (host : Tree A) (set : List ℕ) (h : IsConnected host set) where
  at_top : At A 1 h.top host
  at_top = vertex_at 1 h.top host (omega (arith, h.is_vertex.0), omega (arith, h.is_vertex.1))

  top_in : Mem h.top set
  top_in = subst (Mem h.top) (sym h.is) (inl refl)

  cut_out : Tree (Tree A)
  cut_out = cut (has set) h.top at_top.what

  -- each member is reached from the top
  reached : (n u : ℕ) → u < n → Mem u set → Mem u (numbers (λ v. v) h.top cut_out)
  unfolding cut_out
  reached zero u lt m = absurd (omega arith)
  reached (suc n) u lt m = go (λ p k q. reached n p k q) (subst (Mem u) h.is m)
    where
      go : ((p : ℕ) → p < n → Mem p set → Mem p (numbers (λ v. v) h.top (cut (has set) h.top at_top.what))) → (u ≡ h.top) ⊎ Mem u h.rest → Mem u (numbers (λ v. v) h.top (cut (has set) h.top at_top.what))
      go ih (inl e) = subst (λ v. Mem v (numbers (λ v. v) h.top (cut (has set) h.top at_top.what))) (sym e) (cut_root (has set) h.top at_top.what at_top.is_node (mem_has set h.top top_in))
      go ih (inr q) =
          let p = h.below u q in
          let i = edge_in 1 host p.0 u p.2 in
          let r = ih p.0 (omega (arith, i.2)) p.1 in
          let e = subst (λ k. Edge k at_top.what p.0 u) at_top.start_is
          (edge_inside 1 at_top.around at_top.what p.0 u (subst (λ x. Edge 1 x p.0 u) at_top.is p.2)
          (subst (λ k. In p.0 k (vertices at_top.what)) (sym at_top.start_is) (cut_in (has set) h.top at_top.what p.0 r))) in
          cut_edge (has set) h.top at_top.what p.0 u (mem_has set u m) e r

  -- a connected set is the set of a pattern
  pub cut_of : Cut A host set
  unfolding cut_out
  cut_of = record {
    context = at_top.around;
    pattern_at = cut (has set) h.top at_top.what;
    is_node = cut_node (has set) h.top at_top.what at_top.is_node (mem_has set h.top top_in);
    host_is = at_top.is ∙ ap (fill at_top.around) (sym (join-cut (has set) h.top at_top.what));
    set_is = same_rising set (numbers (λ v. v) h.top (cut (has set) h.top at_top.what)) h.rises (numbers_rise (λ v. v) h.top (cut (has set) h.top at_top.what))
        (λ u m. reached (suc u) u (omega arith) m)
        (λ u m. has_mem set u (cut_mem (has set) h.top at_top.what u m))
        ∙ ap (λ k. numbers (λ v. v) k (cut (has set) h.top at_top.what)) (sym at_top.start_is);
  }

pub connected_of : {A : Type 0} (host : Tree A) (set : List ℕ) → Cut A host set → IsConnected host set
connected_of {A = A} host set c =
    subst (λ x. IsConnected x set) (sym c.host_is) (subst (λ l. IsConnected (fill c.context (join c.pattern_at)) l) (sym c.set_is) (numbers_connected c.context c.pattern_at c.is_node))

mutual
  -- one number, one vertex
  pub one_vertex : {A : Type 0} (k : ℕ) (c d : Ctx A) (x y : Tree A) → IsNode x → IsNode y → fill c x ≡ fill d y → start k c ≡ start k d → (c ≡ d) × (x ≡ y)
  one_vertex k hole hole x y nx ny e s = (refl, e)
  one_vertex k hole (inside m d) x y nx ny e s = let i = start_row_in (suc k) d y in absurd (omega (arith, i.0, s))
  one_vertex k (inside l c) hole x y nx ny e s = let i = start_row_in (suc k) c x in absurd (omega (arith, i.0, s))
  one_vertex k (inside l c) (inside m d) x y nx ny e s =
      let q = node-eq l m (fill_row c x) (fill_row d y) e in
      let h = one_vertex_row (suc k) c d x y nx ny q.1 s in
      (ap₂ inside q.0 h.0, h.1)

  pub one_vertex_row : {A : Type 0} (k : ℕ) (c d : RowCtx A) (x y : Tree A) → IsNode x → IsNode y → fill_row c x ≡ fill_row d y → start_row k c ≡ start_row k d → (c ≡ d) × (x ≡ y)
  one_vertex_row k (here c r) (here d z) x y nx ny e s =
      let q = more-eq (fill c x) (fill d y) r z e in
      let h = one_vertex k c d x y nx ny q.0 s in
      (ap₂ here h.0 q.1, h.1)
  one_vertex_row k (past t c) (past u d) x y nx ny e s =
      let q = more-eq t u (fill_row c x) (fill_row d y) e in
      let h = one_vertex_row (k + vertices t) c d x y nx ny q.1 (s ∙ ap (λ v. start_row (k + vertices v) d) (sym q.0)) in
      (ap₂ past q.0 h.0, h.1)
  one_vertex_row k (here c r) (past u d) x y nx ny e s =
      let q = more-eq (fill c x) u r (fill_row d y) e in
      let i = start_in k c x in let j = start_row_in (k + vertices u) d y in
      let v : vertices (fill c x) ≡ vertices u = ap vertices q.0 in
      absurd (omega (arith, i.1, j.0, v, s, node_has x nx))
  one_vertex_row k (past t c) (here d z) x y nx ny e s =
      let q = more-eq t (fill d y) (fill_row c x) z e in
      let i = start_in k d y in let j = start_row_in (k + vertices t) c x in
      let v : vertices t ≡ vertices (fill d y) = ap vertices q.0 in
      absurd (omega (arith, i.1, j.0, v, s, node_has y ny))

top_of : {A : Type 0} (c d : Ctx A) (p q : Tree (Tree A)) → IsNode p → IsNode q → numbers (λ v. v) (start 1 c) p ≡ numbers (λ v. v) (start 1 d) q → start 1 c ≡ start 1 d
top_of c d (leaf x) q np nq e = absurd np
top_of c d (node l r) (leaf y) np nq e = absurd nq
top_of c d (node l r) (node m s) np nq e =
    (tail_same (start 1 c) (start 1 d) (numbers_row (λ v. v) (suc (start 1 c)) r) (numbers_row (λ v. v) (suc (start 1 d)) s) e).0

pub join_node : {A : Type 0} (p : Tree (Tree A)) → IsNode p → IsNode (join p)
join_node (leaf x) n = absurd n
join_node (node l r) n = tt

-- a set's own numbers cut its pattern out
pub cut_again : {A : Type 0} (k : ℕ) (p : Tree (Tree A)) (l : List ℕ) → l ≡ numbers (λ v. v) k p → cut (has l) k (join p) ≡ p
cut_again k p l e =
    cut-numbers (λ v. v) (has l) k p (λ v i. (λ h. subst (Mem v) e (has_mem l v h), λ m. mem_has l v (subst (Mem v) (sym e) m))) ∙ graft_leaf p

-- and of one alone
pub one_cut : {A : Type 0} (host : Tree A) (set : List ℕ) (a b : Cut A host set) → (a.context ≡ b.context) × (a.pattern_at ≡ b.pattern_at)
one_cut host set a b =
    let s = top_of a.context b.context a.pattern_at b.pattern_at a.is_node b.is_node (sym a.set_is ∙ b.set_is) in
    let h = one_vertex 1 a.context b.context (join a.pattern_at) (join b.pattern_at) (join_node a.pattern_at a.is_node) (join_node b.pattern_at b.is_node) (sym a.host_is ∙ b.host_is) s in
    (h.0, sym (cut_again (start 1 a.context) a.pattern_at set a.set_is) ∙ ap₂ (cut (has set)) s h.1 ∙ cut_again (start 1 b.context) b.pattern_at set b.set_is)

-- the place of a connected set, and its one divisor
pub cut_of_connected : (host : Tree ℕ) (set : List ℕ) → IsConnected host set → (divisor : Tree ℕ) × IsCut host set divisor
cut_of_connected host set h =
    let c = cut_of ℕ host set h in
    (standard (graft c.pattern_at (λ v. leaf (least v))), record { context = c.context; pattern_at = c.pattern_at; is_node = c.is_node; host_is = c.host_is; set_is = c.set_is; divisor_is = refl })

pub connected_of_cut : (host : Tree ℕ) (set : List ℕ) (divisor : Tree ℕ) → IsCut host set divisor → IsConnected host set
connected_of_cut host set divisor p = connected_of host set record { context = p.context; pattern_at = p.pattern_at; is_node = p.is_node; host_is = p.host_is; set_is = p.set_is }
