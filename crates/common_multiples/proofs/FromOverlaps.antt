-- What an overlap of two trees is, where its first place has the root: the second tree laid over the first at a vertex,
-- with numbers at the leaves that keep the order of both trees' leaves.
use Rattle.std.proofs.Common.{◌≡◌, ℕ, suc, ◌<◌, ◌≤◌, List, ◌∷◌, refl, sym, ◌∙◌, ap, arith, subst, inl, inr, ◌⊎◌}
use Rattle.std.specs.Prelude.{slice_index}
use mathlib.Core.Path.{ap₂}
use native.Mathlib.Decide.{dec_lt}
use Rattle.std.specs.declared.cmp.Ordering.{Ordering}
use Rattle.std.specs.declared.cmp.Ordering.TheVariants.{Less}
use Rattle.std.specs.Ordering.{nat_cmp, ordering_then}
use Rattle.std.specs.Cmp.Lexicographic.{slice_cmp}
use Rattle.std.proofs.lemmas.Cmp.{nat_list_cmp_total}
use Rattle.modular_sums.specs.Lists.{Mem}
use Rattle.modular_sums.proofs.Lists.{tail_same}
use Rattle.labelled_trees.specs.Trees.{Tree, Row, leaf, node, none, more, graft, graft_row, vertices, IsNode}
use Rattle.labelled_trees.specs.Contexts.{Ctx, hole, inside, fill, graft_ctx}
use Rattle.labelled_trees.specs.Unions.{union}
use Rattle.labelled_trees.specs.Leaves.{leaf_count}
use Rattle.labelled_trees.proofs.Contexts.{node-eq, more-eq, graft-fill, graft_ctx_assoc, same_ctx}
use Rattle.labelled_trees.proofs.Grafts.{graft_assoc}
use Rattle.labelled_trees.proofs.GraftLeaves.{agree_graft, sum_leaves-graft}
use Rattle.shuffle_insertions.specs.ShuffleTrees.{IsShuffle}
use Rattle.shuffle_insertions.specs.Slots.{PartsRise}
use Rattle.shuffle_insertions.proofs.Comparing.{less_nat}
use Rattle.shuffle_insertions.proofs.TreeOrders.{length_leaves, leaves_count}
use Rattle.shuffle_places.specs.Cuts.{numbers, numbers_row, start}
use Rattle.shuffle_places.specs.Multiples.{IsOverlap}
use Rattle.shuffle_places.specs.Overlays.{shape}
use Rattle.shuffle_places.specs.Places.{IsPlace}
use Rattle.shuffle_places.proofs.Cuts.{one_vertex}
use Rattle.shuffle_places.proofs.Frames.{SlotAt, slot_at}
use Rattle.shuffle_places.proofs.Overlays.{LiesOver, second_over_first, turned, root_covered, vertices-named, start-named}
use Rattle.shuffle_places.proofs.PatternSets.{node_has, start_in, start_row_from}
use Rattle.shuffle_places.proofs.PlaceOrder.{not_before_itself}
use Rattle.shuffle_places.proofs.Places.{cut_of_place}
use Rattle.shuffle_places.proofs.Sizes.{one_size}
use Rattle.shuffle_places.proofs.Vertices.{numbers_in}
use Rattle.tree_divisors.specs.Laying.{IsLaid, numbers_at}
use Rattle.shuffle_places.specs.AllPlaces.{lay}
use Rattle.common_multiples.specs.Overlaying.{Agree, AgreeRow, StandsAt, laid_over, IsOverlay, Begins}
use Rattle.common_multiples.proofs.LaidParts.{HasParts, parts_laid}
use Rattle.common_multiples.proofs.NumberedTrees.{renumbered, numbers-same, numbers_renumbered, table_rises, number_in_range, number_of_each, numbers_apart}

-- a list begins with one number
pub one_start : (v w : ℕ) (l : List ℕ) → Begins v l → Begins w l → v ≡ w
one_start v w l (r, e) (s, f) = (tail_same v w r s (sym e ∙ f)).0

begins_mem : (v : ℕ) (l : List ℕ) → Begins v l → Mem v l
begins_mem v l (r, e) = subst (Mem v) (sym e) (inl refl)

node_begins : (s : ℕ → Tree ℕ) (k : ℕ) (d : Tree ℕ) → IsNode d → Begins k (numbers s k d)
node_begins s k (leaf x) n = absurd n
node_begins s k (node l r) n = (numbers_row s (suc k) r, refl)

node_fill : {A : Type 0} (c : Ctx A) (x : Tree A) → IsNode x → IsNode (fill c x)
node_fill hole x n = n
node_fill (inside l c) x n = tt

node_graft : {A B : Type 0} (x : Tree A) (s : A → Tree B) → IsNode x → IsNode (graft x s)
node_graft (leaf a) s n = absurd n
node_graft (node l r) s n = tt

-- the root has the first number alone
at_root : {A : Type 0} (c : Ctx A) → start 1 c ≡ 1 → c ≡ hole
at_root hole e = refl
at_root (inside l c) e = let h = start_row_from 2 c in absurd (omega (arith, h, e))

-- ---- the place that begins at a vertex

-- The place lies at vertex v, with parts at the leaves of its divisor d.
record LiesAt (host : Tree ℕ) (set : List ℕ) (v : ℕ) (d : Tree ℕ) : Type 0 where
  arity : ℕ
  valid : IsShuffle arity d
  is_node : IsNode d
  context : Ctx ℕ
  parts : ℕ → Tree ℕ
  rises : PartsRise arity parts
  host_is : host ≡ fill context (graft d parts)
  number : start 1 context ≡ v
  set_is : set ≡ numbers parts v d

module _ (n : ℕ) (host : Tree ℕ) (set : List ℕ) (d : Tree ℕ) (valid : IsShuffle n host) (place : IsPlace host set d) where
  slot : SlotAt host set d
  slot = slot_at n host valid set d (cut_of_place host set d place)

  begins_there : Begins (start 1 slot.at.context) set
  begins_there = subst (Begins (start 1 slot.at.context)) (sym slot.set_is) (node_begins slot.at.parts (start 1 slot.at.context) d slot.is_node)

  lies_at : (v : ℕ) → Begins v set → LiesAt host set v d
  lies_at v b =
      let e : start 1 slot.at.context ≡ v = one_start (start 1 slot.at.context) v set begins_there b in
      record {
        arity = slot.arity;
        valid = slot.valid;
        is_node = slot.is_node;
        context = slot.at.context;
        parts = slot.at.parts;
        rises = slot.rises;
        host_is = sym slot.host_is;
        number = e;
        set_is = slot.set_is ∙ ap (λ k. numbers slot.at.parts k d) e;
      }

  -- a place with the root begins there
  begins_at_root : Mem 1 set → Begins 1 set
  begins_at_root m =
      let i = numbers_in slot.at.parts (start 1 slot.at.context) d 1 (subst (Mem 1) slot.set_is m) in
      let s = start_in 1 slot.at.context (graft d slot.at.parts) in
      subst (λ k. Begins k set) (let e : start 1 slot.at.context ≡ 1 = omega (arith, i.0, s.0) in e) begins_there

-- the tree of a place at the root
whole_is : (host : Tree ℕ) (set : List ℕ) (d : Tree ℕ) (p : LiesAt host set 1 d) → host ≡ graft d p.parts
whole_is host set d p = p.host_is ∙ ap (λ c. fill c (graft d p.parts)) (at_root p.context p.number)

-- ---- where the second place begins

module _ (n : ℕ) (a b host : Tree ℕ) (first_set second_set : List ℕ) (o : IsOverlap n a b host first_set second_set) (root : Mem 1 first_set) where
  -- the first place begins at the root
  pub root_begins : Begins 1 first_set
  root_begins = begins_at_root n host first_set a o.valid o.first_at root

  over : LiesOver host a b second_set
  over = second_over_first n a b host first_set second_set o root

  as_many : vertices a ≡ vertices (fill over.context over.part)
  as_many = sym (vertices-named a (λ i. tt {0})) ∙ ap vertices over.first_is

  -- the second place begins at a vertex of the first tree
  pub some_vertex : (v : ℕ) × (0 < v) × (v ≤ vertices a) × Begins v second_set
  some_vertex =
      let s = start_in 1 over.context over.part in
      let p = node_has over.part over.is_node in
      let e = as_many in
      (start 1 over.context, omega (arith, s.0), omega (arith, s.1, p, e), (over.rest, over.top_is))

-- where the root isn't in the first place, it is in the second, and the first begins at another vertex of the second tree
pub not_root : (n : ℕ) (a b host : Tree ℕ) (first_set second_set : List ℕ) → IsOverlap n a b host first_set second_set → (Mem 1 first_set → ⊥)
    → Mem 1 second_set × ((v : ℕ) × (1 < v) × (v ≤ vertices b) × Begins v first_set)
not_root n a b host first_set second_set o f = go (root_covered n a b host first_set second_set o)
  where
    go : Mem 1 first_set ⊎ Mem 1 second_set → Mem 1 second_set × ((v : ℕ) × (1 < v) × (v ≤ vertices b) × Begins v first_set)
    go (inl m) = absurd (f m)
    go (inr m) =
        let h = some_vertex n b a host second_set first_set (turned n a b host first_set second_set o) m in
        (m, (h.0, other h.0 h.1 h.3 (dec_lt 1 h.0), h.2, h.3))
      where
        other : (v : ℕ) → 0 < v → Begins v first_set → Dec (1 < v) → 1 < v
        other v p b (yes h) = h
        other v p b (no h) = absurd (f (begins_mem 1 first_set (subst (λ k. Begins k first_set) (let e : v ≡ 1 = omega (arith, p, h) in e) b)))

-- ---- the second tree over the first

mutual
  -- two trees that make up one tree agree
  agree_of_grafts : (x b : Tree ℕ) (f s : ℕ → Tree ℕ) → graft x f ≡ graft b s → Agree x b
  agree_of_grafts (leaf i) b f s e = tt
  agree_of_grafts (node l r) (leaf j) f s e = tt
  agree_of_grafts (node l r) (node m q) f s e =
      let h = node-eq l m (graft_row r f) (graft_row q s) e in
      (h.0, agree_of_grafts_row r q f s h.1)

  agree_of_grafts_row : (r q : Row ℕ) (f s : ℕ → Tree ℕ) → graft_row r f ≡ graft_row q s → AgreeRow r q
  agree_of_grafts_row none none f s e = tt
  agree_of_grafts_row none (more u q) f s e = absurd (cc e)
  agree_of_grafts_row (more t r) none f s e = absurd (cc e)
  agree_of_grafts_row (more t r) (more u q) f s e =
      let h = more-eq (graft t f) (graft u s) (graft_row r f) (graft_row q s) e in
      (agree_of_grafts t u f s h.0, agree_of_grafts_row r q f s h.1)

-- a shuffle tree of arity n has n leaves, and so has its shape
shape_count : (n : ℕ) (host : Tree ℕ) → IsShuffle n host → leaf_count (shape host) ≡ n
shape_count n host valid = sum_leaves-graft host (λ i. leaf tt) (λ i. 1) ∙ sym (length_leaves host) ∙ leaves_count n host valid

module _ (n : ℕ) (a b : Tree ℕ) (c : Ctx ℕ) (x : Tree ℕ) (a_is : a ≡ fill c x) (node_x : IsNode x)
    (host : Tree ℕ) (first_set second_set : List ℕ) (o : IsOverlap n a b host first_set second_set) (root : Mem 1 first_set) (top : Begins (start 1 c) second_set) where
  lies : LiesOver host a b second_set
  lies = second_over_first n a b host first_set second_set o root

  bare_start : start 1 (graft_ctx c (λ i. leaf (tt {0}))) ≡ start 1 c
  bare_start = start-named 1 c (λ i. tt {0})

  there : (lies.context ≡ graft_ctx c (λ i. leaf tt)) × (lies.part ≡ shape x)
  there = one_vertex 1 lies.context (graft_ctx c (λ i. leaf tt)) lies.part (shape x) lies.is_node (node_graft x (λ i. leaf tt) node_x)
      (sym lies.first_is ∙ ap shape a_is ∙ graft-fill c x (λ i. leaf tt))
      (one_start (start 1 lies.context) (start 1 c) second_set (lies.rest, lies.top_is) top ∙ sym bare_start)

  -- the whole has the shape of the second tree laid over the first
  pub shape_is_laid : shape host ≡ laid_over c x b
  shape_is_laid = lies.tree_is ∙ ap₂ (λ d y. fill d (union y (shape b))) there.0 there.1

  laid_count : leaf_count (laid_over c x b) ≡ n
  laid_count = ap leaf_count (sym shape_is_laid) ∙ shape_count n host o.valid

  first_place : LiesAt host first_set 1 a
  first_place = lies_at n host first_set a o.valid o.first_at 1 (root_begins n a b host first_set second_set o root)

  second_place : LiesAt host second_set (start 1 c) b
  second_place = lies_at n host second_set b o.valid o.second_at (start 1 c) top

  host_grafted : host ≡ graft a first_place.parts
  host_grafted = whole_is host first_set a first_place

  host_filled : host ≡ fill (graft_ctx c first_place.parts) (graft x first_place.parts)
  host_filled = host_grafted ∙ ap (λ y. graft y first_place.parts) a_is ∙ graft-fill c x first_place.parts

  -- what hangs beside x are leaves
  bare_beside : graft_ctx c (λ i. shape (first_place.parts i)) ≡ graft_ctx c (λ i. leaf tt)
  bare_beside = same_ctx c (λ i. shape (first_place.parts i)) (λ i. leaf tt) (graft x (λ i. shape (first_place.parts i))) (union (shape x) (shape b))
      (sym (graft-fill c x (λ i. shape (first_place.parts i))) ∙ sym (graft_assoc (fill c x) first_place.parts (λ i. leaf tt))
      ∙ ap (λ y. shape (graft y first_place.parts)) (sym a_is) ∙ ap shape (sym host_grafted) ∙ shape_is_laid)

  same_start : start 1 (graft_ctx c first_place.parts) ≡ start 1 c
  same_start = sym (start-named 1 (graft_ctx c first_place.parts) (λ i. tt {0})) ∙ ap (start 1) (graft_ctx_assoc c first_place.parts (λ i. leaf tt) ∙ bare_beside) ∙ bare_start

  meets : graft x first_place.parts ≡ graft b second_place.parts
  meets = (one_vertex 1 (graft_ctx c first_place.parts) second_place.context (graft x first_place.parts) (graft b second_place.parts)
      (node_graft x first_place.parts node_x) (node_graft b second_place.parts second_place.is_node) (sym host_filled ∙ second_place.host_is) (same_start ∙ sym second_place.number)).1

  -- root on root, the second tree and what it lies over have the same vertices wherever both have one, and the whole has n leaves
  pub agrees : Agree x b × (leaf_count (laid_over c x b) ≡ n)
  agrees = (agree_of_grafts x b first_place.parts second_place.parts meets, laid_count)

-- ---- the numbers of the whole

-- The whole is the tree with the number of each z at its leaf z, and the numbers at the leaves below each place rise as the place's table has it.
pub record IsRenumbered (n m k : ℕ) (a b : Tree ℕ) (c : Ctx ℕ) (tree inner : Tree ℕ) (first second : List ℕ) (host : Tree ℕ) (first_set second_set : List ℕ) : Type 0 where
  pub number : ℕ → ℕ
  pub host_is : host ≡ graft tree (λ i. leaf (number i))
  pub first_is : first_set ≡ numbers_at 1 (lay a tree)
  pub second_is : second_set ≡ numbers_at (start 1 c) (lay b inner)
  pub rise_first : (i j : ℕ) → 0 < i → i < j → j ≤ m → number (slice_index first i) < number (slice_index first j)
  pub rise_second : (i j : ℕ) → 0 < i → i < j → j ≤ k → number (slice_index second i) < number (slice_index second j)
  pub into : (z : ℕ) → 0 < z → z ≤ n → (0 < number z) × (number z ≤ n)
  pub onto : (u : ℕ) → 0 < u → u ≤ n → (z : ℕ) × (0 < z) × (z ≤ n) × (number z ≡ u)
  pub apart : (y z : ℕ) → 0 < y → y ≤ n → 0 < z → z ≤ n → number y ≡ number z → y ≡ z

-- a place's parts rise up to the arity of its tree
parts_rise_to : (m : ℕ) (host : Tree ℕ) (set : List ℕ) (v : ℕ) (d : Tree ℕ) → IsShuffle m d → (p : LiesAt host set v d) → PartsRise m p.parts
parts_rise_to m host set v d valid p = subst (λ s. PartsRise s p.parts) (one_size p.arity m d p.valid valid) p.rises

module _ (n m k : ℕ) (a b : Tree ℕ) (valid_a : IsShuffle m a) (valid_b : IsShuffle k b) (c : Ctx ℕ) (x : Tree ℕ) (a_is : a ≡ fill c x) (node_x : IsNode x)
    (tree : Tree ℕ) (over : IsOverlay n c x b tree) (inner : Tree ℕ) (at : StandsAt 1 (start 1 c) tree inner)
    (before first before' second : List ℕ) (laid_a : IsLaid before first a tree) (laid_b : IsLaid before' second b inner)
    (host : Tree ℕ) (first_set second_set : List ℕ) (o : IsOverlap n a b host first_set second_set) (root : Mem 1 first_set) (top : Begins (start 1 c) second_set) where
  found : (number : ℕ → ℕ) × (host ≡ graft tree (λ i. leaf (number i)))
  found = renumbered n host tree over.leaves_are (shape_is_laid n a b c x a_is node_x host first_set second_set o root top ∙ sym over.shape_is)

  place_a : LiesAt host first_set 1 a
  place_a = lies_at n host first_set a o.valid o.first_at 1 (root_begins n a b host first_set second_set o root)

  place_b : LiesAt host second_set (start 1 c) b
  place_b = lies_at n host second_set b o.valid o.second_at (start 1 c) top

  parts_a : HasParts m first a tree
  parts_a = parts_laid m before first a tree valid_a laid_a

  parts_b : HasParts k second b inner
  parts_b = parts_laid k before' second b inner valid_b laid_b

  same_a : graft a place_a.parts ≡ graft (graft a parts_a.parts) (λ i. leaf (found.0 i))
  same_a = sym (whole_is host first_set a place_a) ∙ found.1 ∙ ap (λ t. graft t (λ i. leaf (found.0 i))) parts_a.tree_is

  inner_is : graft b place_b.parts ≡ graft inner (λ i. leaf (found.0 i))
  inner_is = (one_vertex 1 place_b.context (graft_ctx at.context (λ i. leaf (found.0 i))) (graft b place_b.parts) (graft inner (λ i. leaf (found.0 i)))
      (node_graft b place_b.parts place_b.is_node) (node_graft inner (λ i. leaf (found.0 i)) at.is_node)
      (sym place_b.host_is ∙ found.1 ∙ ap (λ t. graft t (λ i. leaf (found.0 i))) at.is ∙ graft-fill at.context inner (λ i. leaf (found.0 i)))
      (place_b.number ∙ sym at.number ∙ sym (start-named 1 at.context found.0))).1

  same_b : graft b place_b.parts ≡ graft (graft b parts_b.parts) (λ i. leaf (found.0 i))
  same_b = inner_is ∙ ap (λ t. graft t (λ i. leaf (found.0 i))) parts_b.tree_is

  -- the whole of an overlap is the one tree laid over the other, with these numbers at its leaves
  pub numbered_from : IsRenumbered n m k a b c tree inner first second host first_set second_set
  numbered_from = record {
    number = found.0;
    host_is = found.1;
    first_is = place_a.set_is ∙ numbers_renumbered m a valid_a place_a.parts parts_a.parts found.0 same_a 1 ∙ sym (parts_a.numbers_are 1);
    second_is = place_b.set_is ∙ numbers_renumbered k b valid_b place_b.parts parts_b.parts found.0 same_b (start 1 c) ∙ sym (parts_b.numbers_are (start 1 c));
    rise_first = table_rises m a valid_a place_a.parts parts_a.parts found.0 same_a (parts_rise_to m host first_set 1 a valid_a place_a) first parts_a.leasts;
    rise_second = table_rises k b valid_b place_b.parts parts_b.parts found.0 same_b (parts_rise_to k host second_set (start 1 c) b valid_b place_b) second parts_b.leasts;
    into = number_in_range n host tree o.valid over.leaves_are found.0 found.1;
    onto = number_of_each n host tree o.valid over.leaves_are found.0 found.1;
    apart = numbers_apart n host tree o.valid over.leaves_are found.0 found.1;
  }

-- ---- the two places of one tree

-- the list that begins with the lesser number comes first
begins_less : (v w : ℕ) (s u : List ℕ) → v < w → Begins v s → Begins w u → slice_cmp nat_cmp s u ≡ Less
begins_less v w s u lt (l, e) (r, f) =
    ap (λ y. slice_cmp nat_cmp y u) e ∙ ap (slice_cmp nat_cmp (v ∷ l)) f ∙ ap (λ (q : Ordering). ordering_then q (slice_cmp nat_cmp l r)) (less_nat v w lt)

-- two places of one divisor that begin at one vertex are one place
one_place : (n : ℕ) (host d : Tree ℕ) (v : ℕ) (s u : List ℕ) → IsShuffle n host → IsPlace host s d → IsPlace host u d → Begins v s → Begins v u → s ≡ u
one_place n host d v s u valid ps pu bs bu =
    let p = lies_at n host s d valid ps v bs in
    let q = lies_at n host u d valid pu v bu in
    let e = (one_vertex 1 p.context q.context (graft d p.parts) (graft d q.parts) (node_graft d p.parts p.is_node) (node_graft d q.parts q.is_node)
    (sym p.host_is ∙ q.host_is) (p.number ∙ sym q.number)).1 in
    p.set_is ∙ numbers-same p.parts q.parts v d (agree_graft d p.parts q.parts e) ∙ sym q.set_is

module _ (n : ℕ) (a host : Tree ℕ) (first_set second_set : List ℕ) (o : IsOverlap n a a host first_set second_set) where
  -- the place with the root comes before one that begins elsewhere
  pub root_first_is_less : Mem 1 first_set → (v : ℕ) → 1 < v → Begins v second_set → slice_cmp nat_cmp first_set second_set ≡ Less
  root_first_is_less m v lt b = begins_less 1 v first_set second_set lt (root_begins n a a host first_set second_set o m) b

  -- the two don't both begin at the root, where one comes before the other
  not_both : slice_cmp nat_cmp first_set second_set ≡ Less → Begins 1 first_set → Begins 1 second_set → ⊥
  not_both less p q = not_before_itself second_set (subst (λ l. slice_cmp nat_cmp l second_set ≡ Less) (one_place n host a 1 first_set second_set o.valid o.first_at o.second_at p q) less)

  -- the first place doesn't begin elsewhere while the second begins at the root
  not_after : slice_cmp nat_cmp first_set second_set ≡ Less → (v : ℕ) → 1 < v → Begins v first_set → Begins 1 second_set → ⊥
  not_after less v lt p q = not_before_itself first_set
      (nat_list_cmp_total.trans first_set second_set first_set less (begins_less 1 v second_set first_set lt q p))

  -- of two places of one tree the first has the root, and the second begins elsewhere
  pub less_is_root_first : slice_cmp nat_cmp first_set second_set ≡ Less → Mem 1 first_set × ((v : ℕ) × (1 < v) × Begins v second_set)
  less_is_root_first less = go (root_covered n a a host first_set second_set o)
    where
      second_begins : Mem 1 first_set → (v : ℕ) → 0 < v → Begins v second_set → Dec (1 < v) → Mem 1 first_set × ((v : ℕ) × (1 < v) × Begins v second_set)
      second_begins m v p b (yes lt) = (m, (v, lt, b))
      second_begins m v p b (no h) =
          let e : v ≡ 1 = omega (arith, p, h) in
          absurd (not_both less (root_begins n a a host first_set second_set o m) (subst (λ w. Begins w second_set) e b))

      first_begins : Mem 1 second_set → (v : ℕ) → 0 < v → Begins v first_set → Dec (1 < v) → ⊥
      first_begins m v p b (yes lt) = not_after less v lt b (root_begins n a a host second_set first_set (turned n a a host first_set second_set o) m)
      first_begins m v p b (no h) =
          let e : v ≡ 1 = omega (arith, p, h) in
          not_both less (subst (λ w. Begins w first_set) e b) (root_begins n a a host second_set first_set (turned n a a host first_set second_set o) m)

      go : Mem 1 first_set ⊎ Mem 1 second_set → Mem 1 first_set × ((v : ℕ) × (1 < v) × Begins v second_set)
      go (inl m) = let h = some_vertex n a a host first_set second_set o m in second_begins m h.0 h.1 h.3 (dec_lt 1 h.0)
      go (inr m) =
          let h = some_vertex n a a host second_set first_set (turned n a a host first_set second_set o) m in
          absurd (first_begins m h.0 h.1 h.3 (dec_lt 1 h.0))
