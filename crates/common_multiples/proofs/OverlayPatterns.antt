-- Both patterns of an overlay lie on it.
use Rattle.std.proofs.Common.{◌≡◌, ℕ, ◌+◌, ◌≤◌, [], ◌∷◌, map, refl, sym, ◌∙◌, ap, arith, subst}
use mathlib.Core.Path.{ap₂}
use native.Mathlib.Decide.{ℕ_discrete}
use Rattle.labelled_trees.specs.Trees.{Tree, Row, leaf, node, none, more, IsNode, vertices}
use Rattle.labelled_trees.specs.Contexts.{Ctx, RowCtx, hole, inside, here, past, fill, fill_row, graft_ctx}
use Rattle.labelled_trees.specs.Unions.{union, union_row}
use Rattle.labelled_trees.proofs.Contexts.{graft-fill}
use Rattle.shuffle_insertions.specs.Listing.{each_with_each}
use Rattle.shuffle_insertions.specs.ShuffleTrees.{IsShuffle}
use Rattle.shuffle_places.specs.AllPlaces.{lay, lay_row}
use Rattle.shuffle_places.specs.Cuts.{start}
use Rattle.shuffle_places.specs.Overlays.{shape, shape_row}
use Rattle.shuffle_places.proofs.AllPlaces.{where_yes}
use Rattle.shuffle_places.proofs.Cuts.{one_vertex}
use Rattle.shuffle_places.proofs.Overlays.{vertices-named, start-named}
use Rattle.shuffle_places.proofs.PatternSets.{start_in, node_has, At, vertex_at}
use Rattle.tree_divisors.specs.Laying.{Covers}
use Rattle.common_multiples.specs.Overlaying.{Agree, AgreeRow, StandsAt, IsOverlay}

-- Each vertex of the first tree is one of the second, with the same label and as many inputs.
abbrev mutual
  pub Below : {X : Type 0} → Tree X → Tree X → Type 0
  Below (leaf x) t = Unit {0}
  Below (node l r) (leaf y) = ⊥
  Below (node l r) (node m s) = (l ≡ m) × BelowRow r s

  pub BelowRow : {X : Type 0} → Row X → Row X → Type 0
  BelowRow none none = Unit {0}
  BelowRow none (more u s) = ⊥
  BelowRow (more t r) none = ⊥
  BelowRow (more t r) (more u s) = Below t u × BelowRow r s

mutual
  below_itself : {X : Type 0} (t : Tree X) → Below t t
  below_itself (leaf x) = tt
  below_itself (node l r) = (refl, below_itself_row r)

  below_itself_row : {X : Type 0} (r : Row X) → BelowRow r r
  below_itself_row none = tt
  below_itself_row (more t r) = (below_itself t, below_itself_row r)

mutual
  -- what two trees make has the vertices of the first
  first_below_union : {X : Type 0} (p q : Tree X) → Below p (union p q)
  first_below_union (leaf x) q = tt
  first_below_union (node l r) (leaf y) = (refl, below_itself_row r)
  first_below_union (node l r) (node m s) = (refl, first_below_union_row r s)

  first_below_union_row : {X : Type 0} (p q : Row X) → BelowRow p (union_row p q)
  first_below_union_row none q = tt
  first_below_union_row (more t r) none = (below_itself t, below_itself_row r)
  first_below_union_row (more t r) (more u s) = (first_below_union t u, first_below_union_row r s)

mutual
  -- and of the second, where they agree
  second_below_union : (x b : Tree ℕ) → Agree x b → Below (shape b) (union (shape x) (shape b))
  second_below_union (leaf i) b h = below_itself (shape b)
  second_below_union (node l r) (leaf j) h = tt
  second_below_union (node l r) (node m s) h = (sym h.0, second_below_union_row r s h.1)

  second_below_union_row : (r s : Row ℕ) → AgreeRow r s → BelowRow (shape_row s) (union_row (shape_row r) (shape_row s))
  second_below_union_row none none h = tt
  second_below_union_row none (more u s) h = absurd h
  second_below_union_row (more t r) none h = absurd h
  second_below_union_row (more t r) (more u s) h = (second_below_union t u h.0, second_below_union_row r s h.1)

mutual
  below_in_context : {X : Type 0} (c : Ctx X) (p q : Tree X) → Below p q → Below (fill c p) (fill c q)
  below_in_context hole p q h = h
  below_in_context (inside l c) p q h = (refl, below_in_row_context c p q h)

  below_in_row_context : {X : Type 0} (c : RowCtx X) (p q : Tree X) → Below p q → BelowRow (fill_row c p) (fill_row c q)
  below_in_row_context (here c r) p q h = (below_in_context c p q h, below_itself_row r)
  below_in_row_context (past t c) p q h = (below_itself t, below_in_row_context c p q h)

mutual
  -- a tree lies where its vertices are
  lays_where_below : (p t : Tree ℕ) → Below (shape p) (shape t) → (q : Tree (Tree ℕ)) × (lay p t ≡ q ∷ [])
  lays_where_below (leaf i) t h = (leaf t, refl)
  lays_where_below (node l r) (leaf n) h = absurd h
  lays_where_below (node l r) (node m s) h =
      let k = row_lays_where_below r s h.1 in
      (node m k.0, where_yes (ℕ_discrete l m) (map (λ q. node m q) (lay_row r s)) h.0 ∙ ap (map (λ q. node m q)) k.1)

  row_lays_where_below : (p t : Row ℕ) → BelowRow (shape_row p) (shape_row t) → (q : Row (Tree ℕ)) × (lay_row p t ≡ q ∷ [])
  row_lays_where_below none none h = (none, refl)
  row_lays_where_below none (more u s) h = absurd h
  row_lays_where_below (more t r) none h = absurd h
  row_lays_where_below (more t r) (more u s) h =
      let j = lays_where_below t u h.0 in
      let k = row_lays_where_below r s h.1 in
      (more j.0 k.0, ap₂ each_with_each j.1 k.1)

pub covers_where_below : (p t : Tree ℕ) → Below (shape p) (shape t) → Covers p t
covers_where_below p t h = let k = lays_where_below p t h in record { pattern_at = k.0; laid = k.1 }

module _ (n m k : ℕ) (a b : Tree ℕ) (valid_a : IsShuffle m a) (valid_b : IsShuffle k b) (node_b : IsNode b) (c : Ctx ℕ) (x : Tree ℕ) (a_is : a ≡ fill c x) (node_x : IsNode x)
    (agree : Agree x b) (tree : Tree ℕ) (over : IsOverlay n c x b tree) where
  node_shape : (t : Tree ℕ) → IsNode t → IsNode (shape t)
  node_shape (leaf i) h = h
  node_shape (node l r) h = tt

  node_union : (p q : Tree (Unit {0})) → IsNode p → IsNode (union p q)
  node_union (leaf y) q h = absurd h
  node_union (node l r) (leaf y) h = tt
  node_union (node l r) (node g s) h = tt

  pub node_made : IsNode (union (shape x) (shape b))
  node_made = node_union (shape x) (shape b) (node_shape x node_x)

  -- what stands where x begins has the shape of x and b together
  pub inner_shape : (inner : Tree ℕ) → StandsAt 1 (start 1 c) tree inner → shape inner ≡ union (shape x) (shape b)
  inner_shape inner at = (one_vertex 1 (graft_ctx at.context (λ i. leaf (tt {0}))) (graft_ctx c (λ i. leaf tt)) (shape inner) (union (shape x) (shape b)) (node_shape inner at.is_node) node_made
      (sym (graft-fill at.context inner (λ i. leaf tt)) ∙ ap shape (sym at.is) ∙ over.shape_is)
      (start-named 1 at.context (λ i. tt) ∙ at.number ∙ sym (start-named 1 c (λ i. tt)))).1

  -- a lies on the overlay, and b where x begins
  pub pattern_lies : Covers a tree × ((inner : Tree ℕ) → StandsAt 1 (start 1 c) tree inner → Covers b inner)
  pattern_lies = (
    covers_where_below a tree (subst (λ t. Below t (shape tree)) (sym (ap shape a_is ∙ graft-fill c x (λ i. leaf tt)))
        (subst (Below (fill (graft_ctx c (λ i. leaf tt)) (shape x))) (sym over.shape_is)
        (below_in_context (graft_ctx c (λ i. leaf tt)) (shape x) (union (shape x) (shape b)) (first_below_union (shape x) (shape b))))),
    λ inner at. covers_where_below b inner (subst (Below (shape b)) (sym (inner_shape inner at)) (second_below_union x b agree)),
  )

  -- the vertex where x begins is one of the overlay's
  begins_inside : (1 ≤ start 1 c) × (start 1 c + 1 ≤ 1 + vertices tree)
  begins_inside =
      let i = start_in 1 (graft_ctx c (λ i. leaf (tt {0}))) (union (shape x) (shape b)) in
      let e : start 1 (graft_ctx c (λ i. leaf (tt {0}))) ≡ start 1 c = start-named 1 c (λ i. tt) in
      let v : vertices (fill (graft_ctx c (λ i. leaf (tt {0}))) (union (shape x) (shape b))) ≡ vertices tree = ap vertices (sym over.shape_is) ∙ vertices-named tree (λ i. tt) in
      let p = node_has (union (shape x) (shape b)) node_made in
      omega (arith, i.0, i.1, e, v, p)

  pub begins_among : start 1 c ≤ vertices tree
  begins_among = omega (arith, begins_inside.1)

  -- and something stands there
  pub inner_stands : (inner : Tree ℕ) × StandsAt 1 (start 1 c) tree inner
  inner_stands =
      let p : At ℕ 1 (start 1 c) tree = vertex_at 1 (start 1 c) tree (begins_inside.0, omega (arith, begins_inside.1)) in
      (p.what, record { context = p.around; is_node = p.is_node; is = p.is; number = p.start_is })
