-- Numbers for the leaves of an overlay that rise along both patterns make an overlap of the two.
use Rattle.std.proofs.Common.{◌≡◌, ℕ, suc, ◌+◌, ◌<◌, ◌≤◌, List, refl, sym, ◌∙◌, ap, arith, subst, inl, inr, ◌⊎◌}
use Rattle.std.specs.Prelude.{slice_index}
use native.Mathlib.Decide.{ℕ_discrete, dec_lt}
use Rattle.labelled_trees.specs.Trees.{Tree, Row, leaf, node, none, more, graft, join, leaves, IsNode, IsLeaf}
use Rattle.labelled_trees.specs.Contexts.{Ctx, hole, inside, fill, graft_ctx}
use Rattle.labelled_trees.specs.Labelled.{IsNumbered}
use Rattle.labelled_trees.specs.Leaves.{AllLeaves, AllRow, one_if, occurs, sum_leaves}
use Rattle.labelled_trees.specs.Unions.{union, union_row}
use Rattle.labelled_trees.proofs.ContextLeaves.{sum_of_fill}
use Rattle.labelled_trees.proofs.Contexts.{graft-fill, graft_ctx_assoc}
use Rattle.labelled_trees.proofs.GraftLeaves.{sum_leaves-graft, AllLeaves-graft, AllLeaves_of_graft}
use Rattle.labelled_trees.proofs.Grafts.{graft_assoc, graft_leaf}
use Rattle.labelled_trees.proofs.Leaves.{AllLeaves-imp, AllLeaves-and, AllLeaves-each, AllLeaves-≤, by_leaf, at_leaf, one_if-yes, one_if-no, sum_leaves-add, sum_leaves-≤, sum_leaves-same}
use Rattle.labelled_trees.proofs.Numbered.{numbered_once}
use Rattle.labelled_trees.proofs.Permutations.{times-leaves}
use Rattle.labelled_trees.proofs.Ranks.{same_if}
use Rattle.labelled_trees.proofs.Unions.{union_comm}
use Rattle.shuffle_insertions.specs.Listing.{upto}
use Rattle.shuffle_insertions.specs.ShuffleTrees.{least, IsRising, IsShuffle}
use Rattle.shuffle_insertions.specs.Slots.{PartsRise}
use Rattle.shuffle_insertions.proofs.Insertions.{InRange, all_among, rising-graft}
use Rattle.shuffle_insertions.proofs.Named.{parts_rise}
use Rattle.shuffle_insertions.proofs.Rising.{rising_change, rising_of_fill}
use Rattle.shuffle_insertions.proofs.Splits.{count}
use Rattle.shuffle_insertions.proofs.Upto.{upto_count}
use Rattle.shuffle_places.specs.AllPlaces.{lay}
use Rattle.shuffle_places.specs.Cuts.{numbers, numbers_row, start}
use Rattle.shuffle_places.specs.Multiples.{IsOverlap}
use Rattle.shuffle_places.specs.Overlays.{shape}
use Rattle.shuffle_places.proofs.Overlays.{start-named}
use Rattle.shuffle_places.proofs.SmallOverlaps.{overlap_of_parts}
use Rattle.tree_divisors.specs.Laying.{IsLaid, numbers_at}
use Rattle.common_multiples.specs.Overlaying.{Agree, StandsAt, IsOverlay, Begins}
use Rattle.common_multiples.proofs.LaidParts.{numbers-named}
use Rattle.common_multiples.proofs.OverlayParts.{HasFirst, leaf_has_first, first_occurs, least-renamed, pattern_has_first, parts_have, join-union, all_end, OverlayParts, overlay_parts}

-- ---- a pattern in a tree in which no number stands twice

module _ (n k : ℕ) (host d : Tree ℕ) (valid : IsShuffle k d) (g : ℕ → Tree ℕ) (whole : host ≡ graft d g) (once : (z : ℕ) → occurs z host ≤ 1)
    (only : (z : ℕ) → 0 < occurs z host → InRange n z) (has_first : (i : ℕ) → 0 < i → i ≤ k → HasFirst (g i)) where
  in_whole : (z : ℕ) → occurs z host ≡ sum_leaves d (λ i. occurs z (g i))
  in_whole z = ap (occurs z) whole ∙ sum_leaves-graft d g (λ y. one_if (ℕ_discrete y z))

  -- what stands in a part stands in the tree
  part_inside : (i z : ℕ) → 0 < i → i ≤ k → occurs z (g i) ≤ occurs z host
  part_inside i z p le =
      let e : occurs i d ≡ 1 = valid.each i p le in
      at_leaf d (λ j. occurs z (g j) ≤ occurs z host) i (AllLeaves-≤ d (λ j. occurs z (g j)) (occurs z host) (omega (arith, in_whole z))) (omega (arith, e))

  pub part_in : (i : ℕ) → 0 < i → i ≤ k → InRange n (least (g i))
  part_in i p le = only (least (g i)) (omega (arith, part_inside i (least (g i)) p le, first_occurs (g i) (has_first i p le)))

  counts_both : (i j q z : ℕ) → (i ≡ j → ⊥) → 0 < occurs z (g i) → 0 < occurs z (g j) → Dec (q ≡ i) → Dec (q ≡ j) → one_if (ℕ_discrete q i) + one_if (ℕ_discrete q j) ≤ occurs z (g q)
  counts_both i j q z other hi hj (yes e) (yes f) = absurd (other (sym e ∙ f))
  counts_both i j q z other hi hj (yes e) (no f) =
      let a = one_if-yes (ℕ_discrete q i) e in let b = one_if-no (ℕ_discrete q j) f in let o : 0 < occurs z (g q) = subst (λ v. 0 < occurs z (g v)) (sym e) hi in omega (arith, a, b, o)
  counts_both i j q z other hi hj (no e) (yes f) =
      let a = one_if-no (ℕ_discrete q i) e in let b = one_if-yes (ℕ_discrete q j) f in let o : 0 < occurs z (g q) = subst (λ v. 0 < occurs z (g v)) (sym f) hj in omega (arith, a, b, o)
  counts_both i j q z other hi hj (no e) (no f) = let a = one_if-no (ℕ_discrete q i) e in let b = one_if-no (ℕ_discrete q j) f in omega (arith, a, b)

  not_twice : (i j z : ℕ) → InRange k i → InRange k j → (i ≡ j → ⊥) → 0 < occurs z (g i) → 0 < occurs z (g j) → ⊥
  not_twice i j z ri rj other hi hj =
      let a : occurs i d ≡ 1 = valid.each i ri.0 ri.1 in
      let b : occurs j d ≡ 1 = valid.each j rj.0 rj.1 in
      let both = sum_leaves-add d (λ q. one_if (ℕ_discrete q i)) (λ q. one_if (ℕ_discrete q j)) in
      let few = sum_leaves-≤ d (λ q. one_if (ℕ_discrete q i) + one_if (ℕ_discrete q j)) (λ q. occurs z (g q))
      (AllLeaves-each d (λ q. one_if (ℕ_discrete q i) + one_if (ℕ_discrete q j) ≤ occurs z (g q)) (λ q. counts_both i j q z other hi hj (ℕ_discrete q i) (ℕ_discrete q j))) in
      omega (arith, a, b, both, few, in_whole z, once z)

  -- two parts have different first leaves
  pub part_apart : (i j : ℕ) → InRange k i → InRange k j → least (g i) ≡ least (g j) → i ≡ j
  part_apart i j ri rj e = go (ℕ_discrete i j)
    where
      go : Dec (i ≡ j) → i ≡ j
      go (yes h) = h
      go (no h) = absurd (not_twice i j (least (g i)) ri rj h (first_occurs (g i) (has_first i ri.0 ri.1)) (subst (λ z. 0 < occurs z (g j)) (sym e) (first_occurs (g j) (has_first j rj.0 rj.1))))

mutual
  -- what holds of the parts of two patterns holds of the parts of what they make
  union_all : (p q : Tree (Tree ℕ)) (P : Tree ℕ → Type 0) → AllLeaves p P → AllLeaves q P → AllLeaves (union p q) P
  union_all (leaf t) q P h g = g
  union_all (node l r) (leaf u) P h g = h
  union_all (node l r) (node m s) P h g = union_row_all r s P h g

  union_row_all : (p q : Row (Tree ℕ)) (P : Tree ℕ → Type 0) → AllRow p P → AllRow q P → AllRow (union_row p q) P
  union_row_all none q P h g = tt
  union_row_all (more t r) none P h g = h
  union_row_all (more t r) (more u s) P h g = (union_all t u P h.0 g.0, union_row_all r s P h.1 g.1)

lone_leaf : (P : ℕ → Type 0) (v : Tree ℕ) → IsLeaf v → P (least v) → AllLeaves v P
lone_leaf P (leaf z) h p = p
lone_leaf P (node l r) h p = absurd h

-- a tree whose leaves are 1 to n from left to right is numbered
numbered_upto : (n : ℕ) (t : Tree ℕ) → leaves t ≡ upto n → IsNumbered n t
numbered_upto n t e = record {
  each = λ i p le. sym (same i) ∙ (upto_count n i).0 p le;
  only = λ i o. (upto_count n i).1 (let s = same i in omega (arith, s, o));
}
  where
    same : (i : ℕ) → count i (upto n) ≡ occurs i t
    same i = ap (count i) (sym e) ∙ times-leaves i t

abbrev self : Tree ℕ → Tree ℕ
self v = v

-- ---- the numbers of the overlay's leaves by the two tables

module _ (n m k : ℕ) (a b : Tree ℕ) (valid_a : IsShuffle m a) (valid_b : IsShuffle k b) (node_b : IsNode b) (c : Ctx ℕ) (x : Tree ℕ) (a_is : a ≡ fill c x) (node_x : IsNode x)
    (agree : Agree x b) (tree : Tree ℕ) (over : IsOverlay n c x b tree) (inner : Tree ℕ) (at : StandsAt 1 (start 1 c) tree inner)
    (before first before' second : List ℕ) (laid_a : IsLaid before first a tree) (laid_b : IsLaid before' second b inner) where
  parts : OverlayParts m k first second a c x b tree inner
  parts = overlay_parts n m k a b valid_a valid_b node_b c x a_is node_x agree tree over inner at before first before' second laid_a laid_b

  numbered : IsNumbered n tree
  numbered = numbered_upto n tree over.leaves_are

  meet : graft x parts.f ≡ graft b parts.s
  meet = sym parts.inner_is ∙ parts.inner_is_second

  both_end : AllLeaves (union (graft x (λ i. leaf (parts.f i))) (graft b (λ j. leaf (parts.s j)))) IsLeaf
  both_end = all_end x b parts.f parts.s meet (ap shape (sym parts.inner_is) ∙ parts.shape_is)

  both_end_turned : AllLeaves (union (graft b (λ j. leaf (parts.s j))) (graft x (λ i. leaf (parts.f i)))) IsLeaf
  both_end_turned = subst (λ t. AllLeaves t IsLeaf) (union_comm self (λ y z e. e) (graft x (λ i. leaf (parts.f i))) (graft b (λ j. leaf (parts.s j)))
      (graft_assoc x (λ i. leaf (parts.f i)) self ∙ meet ∙ sym (graft_assoc b (λ j. leaf (parts.s j)) self))) both_end

  -- x stands in a
  x_inside : (i : ℕ) → 0 < occurs i x → 0 < occurs i a
  x_inside i o =
      let e : occurs i a ≡ occurs i (fill c x) = ap (occurs i) a_is in
      let l = sum_of_fill c x (λ q. one_if (ℕ_discrete q i)) in omega (arith, e, l, o)

  x_rising : IsRising x
  x_rising = rising_of_fill c x (subst IsRising a_is valid_a.rising)

  x_among : AllLeaves x (InRange m)
  x_among = by_leaf x (InRange m) (λ i o. valid_a.only i (x_inside i o))

  -- each part has a first leaf
  pattern_first : (s : ℕ → Tree ℕ) (t : Tree ℕ) → IsRising t → AllLeaves t (λ j. IsLeaf (s j)) → HasFirst (graft t s)
  pattern_first s t rise bare = pattern_has_first t s rise (AllLeaves-imp t (λ j. IsLeaf (s j)) (λ j. HasFirst (s j)) (λ j h. leaf_has_first (s j) h) bare)

  f_has_first : (i : ℕ) → HasFirst (parts.f i)
  f_has_first i = go (dec_lt 0 (occurs i x))
    where
      go : Dec (0 < occurs i x) → HasFirst (parts.f i)
      go (yes o) = at_leaf x (λ j. HasFirst (parts.f j)) i
          (parts_have HasFirst (InRange k) parts.f parts.s leaf_has_first (λ t rise all bare. pattern_first parts.s t rise bare) x b meet valid_b.rising (all_among k b valid_b) both_end) o
      go (no o) = leaf_has_first (parts.f i) (parts.beside i (omega (arith, o)))

  s_has_first : (j : ℕ) → 0 < j → j ≤ k → HasFirst (parts.s j)
  s_has_first j p le = at_leaf b (λ q. HasFirst (parts.s q)) j
      (parts_have HasFirst (InRange m) parts.s parts.f leaf_has_first (λ t rise all bare. pattern_first parts.f t rise bare) b x (sym meet) x_rising x_among both_end_turned)
      (let e : occurs j b ≡ 1 = valid_b.each j p le in omega (arith, e))

  inner_inside : (z : ℕ) → occurs z inner ≤ occurs z tree
  inner_inside z = subst (λ t. occurs z inner ≤ occurs z t) (sym at.is) (sum_of_fill at.context inner (λ q. one_if (ℕ_discrete q z)))

  -- the first leaf of each part of a is a leaf of the overlay
  pub first_in : (i : ℕ) → 0 < i → i ≤ m → (0 < slice_index first i) × (slice_index first i ≤ n)
  first_in i p le = subst (InRange n) (sym (parts.firsts i p le))
      (part_in n m tree a valid_a parts.f parts.tree_is (numbered_once numbered) numbered.only (λ q p' le'. f_has_first q) i p le)

  pub second_in : (j : ℕ) → 0 < j → j ≤ k → (0 < slice_index second j) × (slice_index second j ≤ n)
  second_in j p le = subst (InRange n) (sym (parts.seconds j p le))
      (part_in n k inner b valid_b parts.s parts.inner_is_second (λ z. let l = inner_inside z in let o : occurs z tree ≤ 1 = numbered_once numbered z in omega (arith, l, o))
      (λ z o. numbered.only z (let l = inner_inside z in omega (arith, l, o))) s_has_first j p le)

  -- different parts have different first leaves
  pub first_apart : (i j : ℕ) → 0 < i → i ≤ m → 0 < j → j ≤ m → slice_index first i ≡ slice_index first j → i ≡ j
  first_apart i j p le q lf e =
      part_apart n m tree a valid_a parts.f parts.tree_is (numbered_once numbered) numbered.only (λ r p' le'. f_has_first r) i j (p, le) (q, lf)
      (sym (parts.firsts i p le) ∙ e ∙ parts.firsts j q lf)

  pub second_apart : (i j : ℕ) → 0 < i → i ≤ k → 0 < j → j ≤ k → slice_index second i ≡ slice_index second j → i ≡ j
  second_apart i j p le q lf e =
      part_apart n k inner b valid_b parts.s parts.inner_is_second (λ z. let l = inner_inside z in let o : occurs z tree ≤ 1 = numbered_once numbered z in omega (arith, l, o))
      (λ z o. numbered.only z (let l = inner_inside z in omega (arith, l, o))) s_has_first i j (p, le) (q, lf)
      (sym (parts.seconds i p le) ∙ e ∙ parts.seconds j q lf)

  abbrev IsFirst : ℕ → Type 0
  IsFirst z = ((i : ℕ) × (0 < i) × (i ≤ m) × (slice_index first i ≡ z)) ⊎ ((j : ℕ) × (0 < j) × (j ≤ k) × (slice_index second j ≡ z))

  f_is_first : (i : ℕ) → 0 < i → i ≤ m → IsFirst (least (parts.f i))
  f_is_first i p le = inl (i, p, le, parts.firsts i p le)

  s_is_first : (j : ℕ) → 0 < j → j ≤ k → IsFirst (least (parts.s j))
  s_is_first j p le = inr (j, p, le, parts.seconds j p le)

  inner_firsts : AllLeaves (graft x parts.f) IsFirst
  inner_firsts = of_patterns (graft x (λ i. leaf (parts.f i))) (graft b (λ j. leaf (parts.s j))) (graft_assoc x (λ i. leaf (parts.f i)) self)
      (graft_assoc b (λ j. leaf (parts.s j)) self ∙ sym meet) both_end
      (AllLeaves-graft x (λ i. leaf (parts.f i)) (λ v. IsFirst (least v)) (AllLeaves-imp x (InRange m) (λ i. IsFirst (least (parts.f i))) (λ i r. f_is_first i r.0 r.1) x_among))
      (AllLeaves-graft b (λ j. leaf (parts.s j)) (λ v. IsFirst (least v)) (AllLeaves-imp b (InRange k) (λ j. IsFirst (least (parts.s j))) (λ j r. s_is_first j r.0 r.1) (all_among k b valid_b)))
    where
      of_patterns : (p q : Tree (Tree ℕ)) → join p ≡ graft x parts.f → join q ≡ graft x parts.f → AllLeaves (union p q) IsLeaf → AllLeaves p (λ v. IsFirst (least v)) → AllLeaves q (λ v. IsFirst (least v))
          → AllLeaves (graft x parts.f) IsFirst
      of_patterns p q e f h ph qh = subst (λ t. AllLeaves t IsFirst) (join-union p q (e ∙ sym f) ∙ e)
          (AllLeaves-graft (union p q) self IsFirst (AllLeaves-imp (union p q) (λ v. IsLeaf v × IsFirst (least v)) (λ v. AllLeaves v IsFirst) (λ v g. lone_leaf IsFirst v g.0 g.1)
          (AllLeaves-and (union p q) IsLeaf (λ v. IsFirst (least v)) h (union_all p q (λ v. IsFirst (least v)) ph qh))))

  part_firsts : (i : ℕ) → 0 < occurs i a → Dec (0 < occurs i x) → AllLeaves (parts.f i) IsFirst
  part_firsts i o (yes h) = at_leaf x (λ j. AllLeaves (parts.f j) IsFirst) i (AllLeaves_of_graft x parts.f IsFirst inner_firsts) h
  part_firsts i o (no h) = let r = valid_a.only i o in lone_leaf IsFirst (parts.f i) (parts.beside i (omega (arith, h))) (f_is_first i r.0 r.1)

  -- each leaf of the overlay is the first of a part
  pub each_leaf : (z : ℕ) → 0 < z → z ≤ n → ((i : ℕ) × (0 < i) × (i ≤ m) × (slice_index first i ≡ z)) ⊎ ((j : ℕ) × (0 < j) × (j ≤ k) × (slice_index second j ≡ z))
  each_leaf z p le = at_leaf tree IsFirst z
      (subst (λ t. AllLeaves t IsFirst) (sym parts.tree_is) (AllLeaves-graft a parts.f IsFirst (by_leaf a (λ i. AllLeaves (parts.f i) IsFirst) (λ i o. part_firsts i o (dec_lt 0 (occurs i x))))))
      (let e : occurs z tree ≡ 1 = numbered.each z p le in omega (arith, e))

  begins_of : (f : ℕ → Tree ℕ) (v : ℕ) (t : Tree ℕ) → IsNode t → Begins v (numbers f v t)
  begins_of f v (leaf i) h = absurd h
  begins_of f v (node l r) h = (numbers_row f (suc v) r, refl)

  node_around : (d : Ctx ℕ) → IsNode (fill d x)
  node_around hole = node_x
  node_around (inside l d) = tt

  -- the numbers of a's vertices begin with the root's, and those of b's with that of the vertex where x begins
  pub first_begins : Begins 1 (numbers_at 1 (lay a tree))
  first_begins = subst (Begins 1) (sym (parts.first_numbers 1)) (begins_of parts.f 1 a (subst IsNode (sym a_is) (node_around c)))

  pub second_begins : Begins (start 1 c) (numbers_at (start 1 c) (lay b inner))
  second_begins = subst (Begins (start 1 c)) (sym (parts.second_numbers (start 1 c))) (begins_of parts.s (start 1 c) b node_b)

  -- ---- new numbers

  module _ (number : ℕ → ℕ) (rise_first : (i j : ℕ) → 0 < i → i < j → j ≤ m → number (slice_index first i) < number (slice_index first j))
      (rise_second : (i j : ℕ) → 0 < i → i < j → j ≤ k → number (slice_index second i) < number (slice_index second j))
      (into : (z : ℕ) → 0 < z → z ≤ n → (0 < number z) × (number z ≤ n)) (onto : (u : ℕ) → 0 < u → u ≤ n → (z : ℕ) × (0 < z) × (z ≤ n) × (number z ≡ u))
      (apart : (y z : ℕ) → 0 < y → y ≤ n → 0 < z → z ≤ n → number y ≡ number z → y ≡ z) where
    abbrev renamed : Tree ℕ → Tree ℕ
    renamed t = graft t (λ z. leaf (number z))

    abbrev f' : ℕ → Tree ℕ
    f' i = renamed (parts.f i)

    abbrev s' : ℕ → Tree ℕ
    s' j = renamed (parts.s j)

    renamed_leaf : (v : Tree ℕ) → IsLeaf v → IsLeaf (renamed v)
    renamed_leaf (leaf z) h = tt
    renamed_leaf (node l r) h = absurd h

    leaf_rising : (v : Tree ℕ) → IsLeaf v → IsRising (renamed v)
    leaf_rising (leaf z) h = tt
    leaf_rising (node l r) h = absurd h

    f_order : (i j : ℕ) → 0 < i → i < j → j ≤ m → least (f' i) < least (f' j)
    f_order i j p lt le =
        let e : least (f' i) ≡ number (slice_index first i) = least-renamed number (parts.f i) (f_has_first i) ∙ ap number (sym (parts.firsts i p (omega (arith, lt, le)))) in
        let d : least (f' j) ≡ number (slice_index first j) = least-renamed number (parts.f j) (f_has_first j) ∙ ap number (sym (parts.firsts j (omega (arith, lt)) le)) in
        omega (arith, e, d, rise_first i j p lt le)

    s_order : (i j : ℕ) → 0 < i → i < j → j ≤ k → least (s' i) < least (s' j)
    s_order i j p lt le =
        let e : least (s' i) ≡ number (slice_index second i) = least-renamed number (parts.s i) (s_has_first i p (omega (arith, lt, le))) ∙ ap number (sym (parts.seconds i p (omega (arith, lt, le)))) in
        let d : least (s' j) ≡ number (slice_index second j) = least-renamed number (parts.s j) (s_has_first j (omega (arith, lt)) le) ∙ ap number (sym (parts.seconds j (omega (arith, lt)) le)) in
        omega (arith, e, d, rise_second i j p lt le)

    -- what b makes with leaves as parts rises
    pattern_rising : (t : Tree ℕ) → IsRising t → AllLeaves t (InRange k) → AllLeaves t (λ j. IsLeaf (parts.s j)) → IsRising (renamed (graft t parts.s))
    pattern_rising t rise all bare = subst IsRising (sym (graft_assoc t parts.s (λ z. leaf (number z))))
        (rising_change ℕ (λ j. InRange k j × IsLeaf (parts.s j)) leaf s' (λ j h. leaf_rising (parts.s j) h.1) (λ i j h g lt. s_order i j h.0.0 lt g.0.1) t
        (subst IsRising (sym (graft_leaf t)) rise) (AllLeaves-and t (InRange k) (λ j. IsLeaf (parts.s j)) all bare))

    f_rising : (i : ℕ) → IsRising (f' i)
    f_rising i = go (dec_lt 0 (occurs i x))
      where
        go : Dec (0 < occurs i x) → IsRising (f' i)
        go (yes o) = at_leaf x (λ j. IsRising (f' j)) i
            (parts_have (λ v. IsRising (renamed v)) (InRange k) parts.f parts.s leaf_rising pattern_rising x b meet valid_b.rising (all_among k b valid_b) both_end) o
        go (no o) = leaf_rising (parts.f i) (parts.beside i (omega (arith, o)))

    f_rise : PartsRise m f'
    f_rise = record { each = λ i p le. f_rising i; order = f_order }

    whole_is : renamed tree ≡ graft a f'
    whole_is = ap renamed parts.tree_is ∙ graft_assoc a parts.f (λ z. leaf (number z))

    whole_rising : IsRising (renamed tree)
    whole_rising = subst IsRising (sym whole_is) (rising-graft m f' f_rise a valid_a)

    inner_rising : IsRising (graft b s')
    inner_rising = subst IsRising (ap renamed parts.inner_is_second ∙ graft_assoc b parts.s (λ z. leaf (number z)))
        (rising_of_fill (graft_ctx at.context (λ z. leaf (number z))) (renamed inner)
        (subst IsRising (ap renamed at.is ∙ graft-fill at.context inner (λ z. leaf (number z))) whole_rising))

    s_rise : PartsRise k s'
    s_rise = record {
      each = λ j p le. at_leaf b (λ q. IsRising (s' q)) j (parts_rise b s' inner_rising) (let e : occurs j b ≡ 1 = valid_b.each j p le in omega (arith, e));
      order = s_order;
    }

    -- each number stands once
    stands_once : (u : ℕ) → 0 < u → u ≤ n → occurs u (renamed tree) ≡ 1
    stands_once u p le =
        let w = onto u p le in
        sum_leaves-graft tree (λ z. leaf (number z)) (λ y. one_if (ℕ_discrete y u))
        ∙ sum_leaves-same tree (λ z. one_if (ℕ_discrete (number z) u)) (λ z. one_if (ℕ_discrete z w.0))
        (by_leaf tree (λ z. one_if (ℕ_discrete (number z) u) ≡ one_if (ℕ_discrete z w.0))
        (λ z o. let r = numbered.only z o in
        same_if (ℕ_discrete (number z) u) (ℕ_discrete z w.0) (λ e. apart z w.0 r.0 r.1 w.1 w.2 (e ∙ sym w.3)) (λ e. ap number e ∙ w.3)))
        ∙ numbered.each w.0 w.1 w.2

    renamed_valid : IsShuffle n (renamed tree)
    renamed_valid = record {
      rising = whole_rising;
      each = stands_once;
      only = λ u o. at_leaf (renamed tree) (InRange n) u
          (AllLeaves-graft tree (λ z. leaf (number z)) (InRange n) (by_leaf tree (λ z. InRange n (number z)) (λ z h. let r = numbered.only z h in into z r.0 r.1))) o;
    }

    meet_renamed : graft x f' ≡ graft b s'
    meet_renamed = sym (graft_assoc x parts.f (λ z. leaf (number z))) ∙ ap renamed meet ∙ graft_assoc b parts.s (λ z. leaf (number z))

    shape_renamed : shape (graft x f') ≡ union (shape x) (shape b)
    shape_renamed = ap shape (sym (graft_assoc x parts.f (λ z. leaf (number z))) ∙ ap renamed (sym parts.inner_is))
        ∙ graft_assoc inner (λ z. leaf (number z)) (λ i. leaf tt) ∙ parts.shape_is

    hole_renamed : start 1 (graft_ctx c f') ≡ start 1 c
    hole_renamed = ap (start 1) (sym (graft_ctx_assoc c parts.f (λ z. leaf (number z)))) ∙ start-named 1 (graft_ctx c parts.f) number ∙ parts.hole_number

    overlap : IsOverlap n a b (graft a f') (numbers f' 1 a) (numbers s' (start 1 (graft_ctx c f')) b)
    overlap = overlap_of_parts n m k a b f' s' c x valid_a valid_b node_b a_is node_x f_rise s_rise (subst (IsShuffle n) whole_is renamed_valid) meet_renamed
        (all_end x b f' s' meet_renamed shape_renamed) (λ i z. renamed_leaf (parts.f i) (parts.beside i z))

    -- the two patterns are an overlap in the overlay with the new numbers
    pub numbered_overlap : IsOverlap n a b (graft tree (λ i. leaf (number i))) (numbers_at 1 (lay a tree)) (numbers_at (start 1 c) (lay b inner))
    numbered_overlap =
        subst (λ t. IsOverlap n a b t (numbers_at 1 (lay a tree)) (numbers_at (start 1 c) (lay b inner))) (sym whole_is)
        (subst (λ l. IsOverlap n a b (graft a f') l (numbers_at (start 1 c) (lay b inner))) (numbers-named parts.f number 1 a ∙ sym (parts.first_numbers 1))
        (subst (λ l. IsOverlap n a b (graft a f') (numbers f' 1 a) l)
        (ap (λ v. numbers s' v b) hole_renamed ∙ numbers-named parts.s number (start 1 c) b ∙ sym (parts.second_numbers (start 1 c))) overlap))
