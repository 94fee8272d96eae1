-- The parts of the two patterns of an overlay: where one pattern ends, the other goes on or both end.
use Rattle.std.proofs.Common.{◌≡◌, ℕ, ◌+◌, ◌<◌, ◌≤◌, List, ◌∷◌, [], refl, sym, ◌∙◌, ap, arith, subst}
use Rattle.std.specs.Prelude.{slice_index}
use mathlib.Core.Path.{ap₂}
use native.Mathlib.Decide.{dec_lt}
use Rattle.labelled_trees.specs.Trees.{Tree, Row, leaf, node, none, more, graft, graft_row, join, IsNode, IsLeaf}
use Rattle.labelled_trees.specs.Contexts.{Ctx, RowCtx, hole, inside, here, past, fill, fill_row, graft_ctx, graft_row_ctx}
use Rattle.labelled_trees.specs.Leaves.{AllLeaves, AllRow, occurs, occurs_row}
use Rattle.labelled_trees.specs.Unions.{union, union_row, over_first}
use Rattle.labelled_trees.proofs.Contexts.{node-eq, more-eq, graft-fill, graft_ctx_assoc, same_ctx}
use Rattle.labelled_trees.proofs.Factors.{both_ways, both_ways_left}
use Rattle.labelled_trees.proofs.GraftLeaves.{agree, agree_graft, agree_graft_row, AllLeaves_of_graft}
use Rattle.labelled_trees.proofs.Grafts.{graft_assoc}
use Rattle.labelled_trees.proofs.Leaves.{AllLeaves-imp, at_leaf, at_row, occurs_self}
use Rattle.labelled_trees.proofs.Unions.{join-over_first, parts-over_first}
use Rattle.modular_sums.proofs.Choices.{choose-no}
use Rattle.shuffle_insertions.specs.ShuffleTrees.{least, least_row, HasInput, IsRising, IsRisingRow, IsShuffle}
use Rattle.shuffle_places.specs.AllPlaces.{lay}
use Rattle.shuffle_places.specs.Cuts.{numbers, start}
use Rattle.shuffle_places.specs.Overlays.{shape}
use Rattle.shuffle_places.proofs.Cuts.{one_vertex}
use Rattle.shuffle_places.proofs.Frames.{numbers-graft}
use Rattle.shuffle_places.proofs.Overlays.{shape_union, start-named}
use Rattle.tree_divisors.specs.Laying.{IsLaid, numbers_at}
use Rattle.common_multiples.specs.Overlaying.{Agree, StandsAt, IsOverlay}
use Rattle.common_multiples.proofs.LaidParts.{HasParts, parts_laid}
use Rattle.common_multiples.proofs.OverlayPatterns.{inner_shape}

-- ---- first leaves

-- The tree has a first leaf: the first input of a vertex is there, and so on.
abbrev mutual
  pub HasFirst : Tree ℕ → Type 0
  HasFirst (leaf n) = Unit {0}
  HasFirst (node l r) = HasFirstRow r

  pub HasFirstRow : Row ℕ → Type 0
  HasFirstRow none = ⊥
  HasFirstRow (more t r) = HasFirst t

pub leaf_has_first : (t : Tree ℕ) → IsLeaf t → HasFirst t
leaf_has_first (leaf n) h = tt
leaf_has_first (node l r) h = absurd h

mutual
  pub first_occurs : (t : Tree ℕ) → HasFirst t → 0 < occurs (least t) t
  first_occurs (leaf n) h = let e = occurs_self n in omega (arith, e)
  first_occurs (node l r) h = first_occurs_row r h

  first_occurs_row : (r : Row ℕ) → HasFirstRow r → 0 < occurs_row (least_row r) r
  first_occurs_row none h = absurd h
  first_occurs_row (more t r) h = let k = first_occurs t h in omega (arith, k)

mutual
  -- with other numbers it is the same leaf
  pub least-renamed : (number : ℕ → ℕ) (t : Tree ℕ) → HasFirst t → least (graft t (λ j. leaf (number j))) ≡ number (least t)
  least-renamed number (leaf n) h = refl
  least-renamed number (node l r) h = least_row-renamed number r h

  least_row-renamed : (number : ℕ → ℕ) (r : Row ℕ) → HasFirstRow r → least_row (graft_row r (λ j. leaf (number j))) ≡ number (least_row r)
  least_row-renamed number none h = absurd h
  least_row-renamed number (more t r) h = least-renamed number t h

mutual
  -- a rising pattern whose parts have first leaves
  pub pattern_has_first : (t : Tree ℕ) (s : ℕ → Tree ℕ) → IsRising t → AllLeaves t (λ i. HasFirst (s i)) → HasFirst (graft t s)
  pattern_has_first (leaf i) s rise h = h
  pattern_has_first (node l r) s rise h = pattern_row_has_first r s rise.0 rise.1 h

  pattern_row_has_first : (r : Row ℕ) (s : ℕ → Tree ℕ) → HasInput r → IsRisingRow r → AllRow r (λ i. HasFirst (s i)) → HasFirstRow (graft_row r s)
  pattern_row_has_first none s some rise h = absurd some
  pattern_row_has_first (more t r) s some rise h = pattern_has_first t s rise.0 h.0

-- ---- one pattern's parts by the other pattern

-- A property of leaves, and of what a pattern with leaves as parts makes, is one of each part of the other pattern.
module _ (Q : Tree ℕ → Type 0) (P : ℕ → Type 0) (f s : ℕ → Tree ℕ) (of_leaf : (v : Tree ℕ) → IsLeaf v → Q v)
    (of_pattern : (t : Tree ℕ) → IsRising t → AllLeaves t P → AllLeaves t (λ j. IsLeaf (s j)) → Q (graft t s)) where
  mutual
    pub parts_have : (x b : Tree ℕ) → graft x f ≡ graft b s → IsRising b → AllLeaves b P → AllLeaves (union (graft x (λ i. leaf (f i))) (graft b (λ j. leaf (s j)))) IsLeaf
        → AllLeaves x (λ i. Q (f i))
    parts_have (leaf i) b e rise all bare = subst Q (sym e) (of_pattern b rise all (AllLeaves_of_graft b (λ j. leaf (s j)) IsLeaf bare))
    parts_have (node l r) (leaf j) e rise all bare = AllLeaves-imp (node l r) (λ i. IsLeaf (f i)) (λ i. Q (f i)) (λ i h. of_leaf (f i) h) (AllLeaves_of_graft (node l r) (λ i. leaf (f i)) IsLeaf bare)
    parts_have (node l r) (node g q) e rise all bare = row_parts_have r q (node-eq l g (graft_row r f) (graft_row q s) e).1 rise.1 all bare

    row_parts_have : (x b : Row ℕ) → graft_row x f ≡ graft_row b s → IsRisingRow b → AllRow b P → AllRow (union_row (graft_row x (λ i. leaf (f i))) (graft_row b (λ j. leaf (s j)))) IsLeaf
        → AllRow x (λ i. Q (f i))
    row_parts_have none b e rise all bare = tt
    row_parts_have (more t r) none e rise all bare = absurd (cc e)
    row_parts_have (more t r) (more u q) e rise all bare =
        let h = more-eq (graft t f) (graft u s) (graft_row r f) (graft_row q s) e in
        (parts_have t u h.0 rise.0 all.0 bare.0, row_parts_have r q h.1 rise.2 all.1 bare.1)

-- ---- where both patterns end

leaf_of_shape : (v : Tree ℕ) → shape v ≡ leaf tt → IsLeaf v
leaf_of_shape (leaf n) e = tt
leaf_of_shape (node l r) e = absurd (cc e)

abbrev self : Tree ℕ → Tree ℕ
self v = v

-- what two patterns make is the tree that each is
pub join-union : (p q : Tree (Tree ℕ)) → join p ≡ join q → join (union p q) ≡ join p
join-union p q e =
    ap join (sym (join-over_first self p q e)) ∙ graft_assoc (over_first p q) (λ u. u) self ∙ sym (graft_assoc (over_first p q) (λ u. leaf (join u)) self)
    ∙ ap join (parts-over_first self p q e) ∙ graft_assoc p (λ v. leaf v) self

patterns_end : (p q : Tree (Tree ℕ)) → join p ≡ join q → shape (join p) ≡ union (shape p) (shape q) → AllLeaves (union p q) IsLeaf
patterns_end p q meet is = AllLeaves-imp (union p q) (λ v. shape v ≡ leaf tt) IsLeaf leaf_of_shape
    (agree_graft (union p q) shape (λ v. leaf tt) (sym (graft_assoc (union p q) self (λ i. leaf tt)) ∙ ap shape (join-union p q meet) ∙ is ∙ sym (shape_union p q)))

-- a tree with the shape of both patterns ends where both end
pub all_end : (x b : Tree ℕ) (f s : ℕ → Tree ℕ) → graft x f ≡ graft b s → shape (graft x f) ≡ union (shape x) (shape b)
    → AllLeaves (union (graft x (λ i. leaf (f i))) (graft b (λ j. leaf (s j)))) IsLeaf
all_end x b f s meet is = patterns_end (graft x (λ i. leaf (f i))) (graft b (λ j. leaf (s j)))
    (graft_assoc x (λ i. leaf (f i)) self ∙ meet ∙ sym (graft_assoc b (λ j. leaf (s j)) self))
    (ap shape (graft_assoc x (λ i. leaf (f i)) self) ∙ is
    ∙ ap₂ union (sym (graft_assoc x (λ i. leaf (f i)) (λ v. leaf tt))) (sym (graft_assoc b (λ j. leaf (s j)) (λ v. leaf tt))))

-- ---- the parts beside the second pattern

inside-eq : {A : Type 0} (l : ℕ) (c d : RowCtx A) → inside l c ≡ inside l d → c ≡ d
inside-eq l c d e = cc

here-eq : {A : Type 0} (c d : Ctx A) (r s : Row A) → here c r ≡ here d s → (c ≡ d) × (r ≡ s)
here-eq c d r s e = (cc, cc)

past-eq : {A : Type 0} (t u : Tree A) (c d : RowCtx A) → past t c ≡ past u d → (t ≡ u) × (c ≡ d)
past-eq t u c d e = (cc, cc)

either_part : (m n : ℕ) (Q : Type 0) → Dec (0 < m) → (0 < m → Q) → (0 < n → Q) → 0 < m + n → Q
either_part m n Q (yes h) f g o = f h
either_part m n Q (no h) f g o = g (omega (arith, o, h))

mutual
  -- where a context has the shape that it has with leaves, the parts in it are leaves
  parts_beside : (c : Ctx ℕ) (x : Tree ℕ) (f : ℕ → Tree ℕ) → graft_ctx c (λ i. shape (f i)) ≡ graft_ctx c (λ i. leaf tt) → (i : ℕ) → 0 < occurs i (fill c x) → occurs i x ≡ 0 → IsLeaf (f i)
  parts_beside hole x f e i o z = absurd (omega (arith, o, z))
  parts_beside (inside l c) x f e i o z = row_parts_beside c x f (inside-eq l (graft_row_ctx c (λ i. shape (f i))) (graft_row_ctx c (λ i. leaf tt)) e) i o z

  row_parts_beside : (c : RowCtx ℕ) (x : Tree ℕ) (f : ℕ → Tree ℕ) → graft_row_ctx c (λ i. shape (f i)) ≡ graft_row_ctx c (λ i. leaf tt) → (i : ℕ) → 0 < occurs_row i (fill_row c x) → occurs i x ≡ 0 → IsLeaf (f i)
  row_parts_beside (here c r) x f e i o z =
      let h = here-eq (graft_ctx c (λ i. shape (f i))) (graft_ctx c (λ i. leaf tt)) (graft_row r (λ i. shape (f i))) (graft_row r (λ i. leaf tt)) e in
      either_part (occurs i (fill c x)) (occurs_row i r) (IsLeaf (f i)) (dec_lt 0 (occurs i (fill c x))) (λ p. parts_beside c x f h.0 i p z)
      (λ p. leaf_of_shape (f i) (at_row r (λ j. shape (f j) ≡ leaf tt) i (agree_graft_row r (λ i. shape (f i)) (λ i. leaf tt) h.1) p)) o
  row_parts_beside (past t c) x f e i o z =
      let h = past-eq (graft t (λ i. shape (f i))) (graft t (λ i. leaf tt)) (graft_row_ctx c (λ i. shape (f i))) (graft_row_ctx c (λ i. leaf tt)) e in
      either_part (occurs i t) (occurs_row i (fill_row c x)) (IsLeaf (f i)) (dec_lt 0 (occurs i t))
      (λ p. leaf_of_shape (f i) (at_leaf t (λ j. shape (f j) ≡ leaf tt) i (agree_graft t (λ i. shape (f i)) (λ i. leaf tt) h.0) p))
      (λ p. row_parts_beside c x f h.1 i p z) o

-- ---- the parts of both

-- Parts of which those outside the pattern are leaves.
pub record BareOutside (m : ℕ) (table : List ℕ) (a tree : Tree ℕ) : Type 0 where
  pub has : HasParts m table a tree
  pub outside : (i : ℕ) → occurs i a ≡ 0 → IsLeaf (has.parts i)

bare_outside : (m : ℕ) (table : List ℕ) (a tree : Tree ℕ) → IsShuffle m a → HasParts m table a tree → BareOutside m table a tree
unfolding both_ways
bare_outside m table a tree valid h = record {
  has = record {
    parts = both_ways a h.parts (λ i. leaf 0);
    laid = h.laid ∙ ap (λ q. q ∷ []) same;
    tree_is = h.tree_is ∙ sym (graft_assoc a (λ i. leaf (h.parts i)) self) ∙ ap join same ∙ graft_assoc a (λ i. leaf (both_ways a h.parts (λ i. leaf 0) i)) self;
    leasts = λ i p le. h.leasts i p le
        ∙ ap least (at_leaf a (λ j. h.parts j ≡ both_ways a h.parts (λ i. leaf 0) j) i (agree a h.parts (both_ways a h.parts (λ i. leaf 0)) same) (let e : occurs i a ≡ 1 = valid.each i p le in omega (arith, e)));
    numbers_are = λ v. h.numbers_are v ∙ sym (numbers-graft a h.parts self v) ∙ ap (numbers self v) same ∙ numbers-graft a (both_ways a h.parts (λ i. leaf 0)) self v;
  };
  outside = λ i z. subst IsLeaf (sym (choose-no (dec_lt 0 (occurs i a)) (h.parts i) (leaf 0) (λ o. absurd (omega (arith, o, z))))) tt;
}
  where
    same : graft a (λ i. leaf (h.parts i)) ≡ graft a (λ i. leaf (both_ways a h.parts (λ i. leaf 0) i))
    same = both_ways_left a h.parts (λ i. leaf 0)

-- The parts f of the one pattern and s of the other, which is laid over it where x begins.
pub record OverlayParts (m k : ℕ) (first second : List ℕ) (a : Tree ℕ) (c : Ctx ℕ) (x b tree inner : Tree ℕ) : Type 0 where
  pub f : ℕ → Tree ℕ
  pub s : ℕ → Tree ℕ
  pub tree_is : tree ≡ graft a f
  pub inner_is : inner ≡ graft x f
  pub inner_is_second : inner ≡ graft b s
  pub host_is : tree ≡ fill (graft_ctx c f) inner
  pub beside : (i : ℕ) → occurs i x ≡ 0 → IsLeaf (f i)
  pub shape_is : shape inner ≡ union (shape x) (shape b)
  pub firsts : (i : ℕ) → 0 < i → i ≤ m → slice_index first i ≡ least (f i)
  pub seconds : (j : ℕ) → 0 < j → j ≤ k → slice_index second j ≡ least (s j)
  pub first_numbers : (v : ℕ) → numbers_at v (lay a tree) ≡ numbers f v a
  pub second_numbers : (v : ℕ) → numbers_at v (lay b inner) ≡ numbers s v b
  pub hole_number : start 1 (graft_ctx c f) ≡ start 1 c

node_graft : (t : Tree ℕ) (f : ℕ → Tree ℕ) → IsNode t → IsNode (graft t f)
node_graft (leaf i) f h = absurd h
node_graft (node l r) f h = tt

module _ (n m k : ℕ) (a b : Tree ℕ) (valid_a : IsShuffle m a) (valid_b : IsShuffle k b) (node_b : IsNode b) (c : Ctx ℕ) (x : Tree ℕ) (a_is : a ≡ fill c x) (node_x : IsNode x)
    (agree : Agree x b) (tree : Tree ℕ) (over : IsOverlay n c x b tree) (inner : Tree ℕ) (at : StandsAt 1 (start 1 c) tree inner)
    (before first before' second : List ℕ) (laid_a : IsLaid before first a tree) (laid_b : IsLaid before' second b inner) where
  outer : BareOutside m first a tree
  outer = bare_outside m first a tree valid_a (parts_laid m before first a tree valid_a laid_a)

  inside_b : HasParts k second b inner
  inside_b = parts_laid k before' second b inner valid_b laid_b

  contexts : graft_ctx c (λ i. shape (outer.has.parts i)) ≡ graft_ctx c (λ i. leaf tt)
  contexts = same_ctx c (λ i. shape (outer.has.parts i)) (λ i. leaf tt) (graft x (λ i. shape (outer.has.parts i))) (union (shape x) (shape b))
      (sym (graft-fill c x (λ i. shape (outer.has.parts i))) ∙ ap (λ t. graft t (λ i. shape (outer.has.parts i))) (sym a_is)
      ∙ sym (graft_assoc a outer.has.parts (λ i. leaf tt)) ∙ ap shape (sym outer.has.tree_is) ∙ over.shape_is)

  begins : start 1 (graft_ctx c outer.has.parts) ≡ start 1 c
  begins = sym (start-named 1 (graft_ctx c outer.has.parts) (λ i. tt)) ∙ ap (start 1) (graft_ctx_assoc c outer.has.parts (λ i. leaf (tt {0})) ∙ contexts) ∙ start-named 1 c (λ i. tt)

  whole : tree ≡ fill (graft_ctx c outer.has.parts) (graft x outer.has.parts)
  whole = outer.has.tree_is ∙ ap (λ t. graft t outer.has.parts) a_is ∙ graft-fill c x outer.has.parts

  one : graft x outer.has.parts ≡ inner
  one = (one_vertex 1 (graft_ctx c outer.has.parts) at.context (graft x outer.has.parts) inner (node_graft x outer.has.parts node_x) at.is_node (sym whole ∙ at.is) (begins ∙ sym at.number)).1

  parts_beside_x : (i : ℕ) → Dec (0 < occurs i a) → occurs i x ≡ 0 → IsLeaf (outer.has.parts i)
  parts_beside_x i (yes o) z = parts_beside c x outer.has.parts contexts i (subst (λ t. 0 < occurs i t) a_is o) z
  parts_beside_x i (no o) z = outer.outside i (omega (arith, o))

  -- the parts of both patterns of an overlay
  pub overlay_parts : OverlayParts m k first second a c x b tree inner
  overlay_parts = record {
    f = outer.has.parts;
    s = inside_b.parts;
    tree_is = outer.has.tree_is;
    inner_is = sym one;
    inner_is_second = inside_b.tree_is;
    host_is = whole ∙ ap (fill (graft_ctx c outer.has.parts)) one;
    beside = λ i z. parts_beside_x i (dec_lt 0 (occurs i a)) z;
    shape_is = inner_shape n m k a b valid_a valid_b node_b c x a_is node_x agree tree over inner at;
    firsts = outer.has.leasts;
    seconds = inside_b.leasts;
    first_numbers = outer.has.numbers_are;
    second_numbers = inside_b.numbers_are;
    hole_number = begins;
  }
