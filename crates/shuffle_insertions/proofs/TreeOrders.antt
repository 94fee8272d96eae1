-- The four orders are orders of trees that are kept by insertion.
use Rattle.std.proofs.Common.{subst, ◌≡◌, ℕ, zero, suc, ◌+◌, ◌*◌, ◌<◌, ◌≤◌, List, [], ◌∷◌, length, refl, sym, ◌∙◌, ap, arith, inl, inr, ◌⊎◌, length-append}
use mathlib.Core.Path.{ap₂}
use mathlib.Core.List.{◌++◌}
use native.Mathlib.Decide.{dec_lt}
use Rattle.std.specs.declared.cmp.Ordering.{Ordering}
use Rattle.std.specs.declared.cmp.Ordering.TheVariants.{Less, Equal, Greater}
use Rattle.std.specs.Ordering.{ordering_then, ordering_reverse, nat_cmp}
use Rattle.std.specs.Cmp.{IsTotalOrder}
use Rattle.std.specs.Cmp.Lexicographic.{slice_cmp}
use Rattle.std.proofs.lemmas.Cmp.{nat_list_cmp_total, lists_total}
use Rattle.labelled_trees.specs.Trees.{Tree, Row, leaf, node, none, more, graft, graft_row, leaves, leaves_row}
use Rattle.labelled_trees.specs.Contexts.{Ctx, RowCtx, hole, inside, here, past, fill, fill_row}
use Rattle.shuffle_insertions.proofs.Words.{words, under-nil}
use Rattle.labelled_trees.specs.Leaves.{sum_leaves, sum_row, occurs}
use Rattle.shuffle_insertions.specs.ShuffleTrees.{IsShuffle}
use Rattle.shuffle_insertions.specs.Slots.{Slot, fill_slot, PartsRise}
use Rattle.shuffle_insertions.proofs.PathWords.{HasWord}
use Rattle.shuffle_insertions.specs.Keys.{words_at, words_below, weight, weight_row, word_cmp, short_cmp, Key, key, path, pathshort, leafpath, weightpath}
use Rattle.shuffle_insertions.specs.Orders.{IsTreeOrder}
use Rattle.shuffle_insertions.proofs.LabelSums.{same_sums, once_of}
use Rattle.labelled_trees.proofs.RangeSums.{by_counts}
use Rattle.labelled_trees.specs.RangeSums.{range_sum}
use Rattle.labelled_trees.proofs.Leaves.{by_leaf}
use Rattle.shuffle_insertions.proofs.Insertions.{InRange, all_among, fill_slot-valid}
use Rattle.shuffle_insertions.proofs.Paths.{word-occurs, WordLess-between, ShortLess-between, words_kept, same_after}
use Rattle.shuffle_insertions.proofs.Orders.{rows, less-fill, leaves-graft, less_rows, all_in}
use Rattle.std.proofs.lemmas.Map.Lookups.{exact_unsigned}
use Rattle.labelled_trees.proofs.Orderings.{then_equal}
use Rattle.shuffle_insertions.proofs.Comparing.{turn_greater, nat_less, less_nat, same_nat, then_less, then_first, then_second, list_same, itself, lex_of, of_lex, word_same, short_same, word_less_of, of_word_less, short_less_of, of_short_less, word_total, short_total, path_total, pathshort_total, leafpath_total, weightpath_total}
use Rattle.shuffle_insertions.proofs.Keys.{has_at, all_same, below_of_same, less_of, of_less, at_all}
use Rattle.shuffle_insertions.proofs.DeterminedByWords.{words_tagged, determined, tag}
use Rattle.shuffle_insertions.proofs.Frames.{slot_of}

-- insertion keeps what a comparison says, where it says less or equal
pub record Keeps (C : ℕ → Tree ℕ → Tree ℕ → Ordering) : Type 0 where
  pub less : (k n : ℕ) (f : Slot) (x y : Tree ℕ) → PartsRise k f.parts → IsShuffle k x → IsShuffle k y → IsShuffle n (fill_slot f x) → C k x y ≡ Less → C n (fill_slot f x) (fill_slot f y) ≡ Less
  pub same : (k n : ℕ) (f : Slot) (x y : Tree ℕ) → PartsRise k f.parts → IsShuffle k x → IsShuffle k y → IsShuffle n (fill_slot f x) → C k x y ≡ Equal → C n (fill_slot f x) (fill_slot f y) ≡ Equal

pub keeps_then : (C D : ℕ → Tree ℕ → Tree ℕ → Ordering) → Keeps C → Keeps D → Keeps (λ n x y. ordering_then (C n x y) (D n x y))
keeps_then C D kc kd = record {
  less = λ k n f x y r hx hy v e. go k n f x y r hx hy v (then_less (C k x y) (D k x y) e);
  same = λ k n f x y r hx hy v e.
      let h = then_equal (C k x y) (D k x y) e in
      then_second (C n (fill_slot f x) (fill_slot f y)) (D n (fill_slot f x) (fill_slot f y)) Equal (kc.same k n f x y r hx hy v h.0) (kd.same k n f x y r hx hy v h.1);
}
  where
    go : (k n : ℕ) (f : Slot) (x y : Tree ℕ) → PartsRise k f.parts → IsShuffle k x → IsShuffle k y → IsShuffle n (fill_slot f x)
        → (C k x y ≡ Less) ⊎ ((C k x y ≡ Equal) × (D k x y ≡ Less)) → ordering_then (C n (fill_slot f x) (fill_slot f y)) (D n (fill_slot f x) (fill_slot f y)) ≡ Less
    go k n f x y r hx hy v (inl e) = then_first (C n (fill_slot f x) (fill_slot f y)) (D n (fill_slot f x) (fill_slot f y)) (kc.less k n f x y r hx hy v e)
    go k n f x y r hx hy v (inr e) = then_second (C n (fill_slot f x) (fill_slot f y)) (D n (fill_slot f x) (fill_slot f y)) Less (kc.same k n f x y r hx hy v e.0) (kd.less k n f x y r hx hy v e.1)

-- the words
module _ (R : List ℕ → List ℕ → Ordering) (total : IsTotalOrder R) (only : (v w : List ℕ) → R v w ≡ Equal → v ≡ w)
    (between : (a v w b : List ℕ) → R v w ≡ Less → R (a ++ (v ++ b)) (a ++ (w ++ b)) ≡ Less) where
  abbrev by_words : ℕ → Tree ℕ → Tree ℕ → Ordering
  by_words n x y = slice_cmp R (words_below (suc n) x) (words_below (suc n) y)

  pub words_keep : Keeps by_words
  words_keep = record {
    less = λ k n f x y r hx hy v e.
        let vy : IsShuffle n (fill_slot f y) = fill_slot-valid k n f x y r hx hy v in
        let h = less_of k x y hx hy R total only (suc k) e in
        let g = words_kept k n f x y r hx hy v (λ a b. R a b ≡ Less) between h in
        let b = v.only g.at (word-occurs (fill_slot f x) g.at g.first_word g.has_first) in
        of_less n (fill_slot f x) (fill_slot f y) v vy R total only (suc n) g (omega (arith, b.1));
    same = λ k n f x y r hx hy v e.
        let vy : IsShuffle n (fill_slot f y) = fill_slot-valid k n f x y r hx hy v in
        let s = all_same k x y hx hy (list_same R only (words_below (suc k) x) (words_below (suc k) y) e) in
        itself (slice_cmp R) (lists_total total) (words_below (suc n) (fill_slot f x)) (words_below (suc n) (fill_slot f y))
        (below_of_same n (fill_slot f x) (fill_slot f y) v vy (λ j. same_after k n f x y r hx hy v j (λ i w a hw. s i)) (suc n));
  }

-- the leaf row
mutual
  pub length_leaves : (t : Tree ℕ) → length (leaves t) ≡ sum_leaves t (λ i. 1)
  length_leaves (leaf n) = refl
  length_leaves (node l r) = length_leaves_row r

  length_leaves_row : (r : Row ℕ) → length (leaves_row r) ≡ sum_row r (λ i. 1)
  length_leaves_row none = refl
  length_leaves_row (more t r) = length-append (leaves t) (leaves_row r) ∙ ap₂ (λ a b. a + b) (length_leaves t) (length_leaves_row r)

mutual
  same-fill : (c : Ctx ℕ) (x y : Tree ℕ) → leaves x ≡ leaves y → leaves (fill c x) ≡ leaves (fill c y)
  same-fill hole x y e = e
  same-fill (inside l c) x y e = same-fill_row c x y e

  same-fill_row : (c : RowCtx ℕ) (x y : Tree ℕ) → leaves x ≡ leaves y → leaves_row (fill_row c x) ≡ leaves_row (fill_row c y)
  same-fill_row (here c r) x y e = ap (λ k. k ++ leaves_row r) (same-fill c x y e)
  same-fill_row (past t c) x y e = ap (λ k. leaves t ++ k) (same-fill_row c x y e)

abbrev by_row : ℕ → Tree ℕ → Tree ℕ → Ordering
by_row n x y = slice_cmp nat_cmp (leaves x) (leaves y)

pub row_keeps : Keeps by_row
row_keeps = record {
  less = λ k n f x y r hx hy v e.
      let l = lex_of (leaves x) (leaves y) (length_leaves x ∙ same_sums k x y hx hy (λ i. 1) ∙ sym (length_leaves y)) e in
      of_lex (leaves (fill_slot f x)) (leaves (fill_slot f y))
      (less-fill f.context (graft x f.parts) (graft y f.parts)
      (rw (leaves-graft x f.parts, leaves-graft y f.parts) (less_rows k f.parts r (leaves x) (leaves y) (all_in x (InRange k) (all_among k x hx)) (all_in y (InRange k) (all_among k y hy)) l)));
  same = λ k n f x y r hx hy v e.
      let l = list_same nat_cmp exact_unsigned (leaves x) (leaves y) e in
      itself (slice_cmp nat_cmp) nat_list_cmp_total (leaves (fill_slot f x)) (leaves (fill_slot f y))
      (same-fill f.context (graft x f.parts) (graft y f.parts) (leaves-graft x f.parts ∙ ap (λ k. rows k f.parts) l ∙ sym (leaves-graft y f.parts)));
}

-- the weight
module _ (w : ℕ → ℕ) where
  mutual
    weight-graft : (t : Tree ℕ) (s : ℕ → Tree ℕ) → weight w (graft t s) ≡ weight w t + sum_leaves t (λ i. weight w (s i))
    weight-graft (leaf n) s = omega arith
    weight-graft (node l r) s = omega (arith, weight_row-graft r s)

    weight_row-graft : (r : Row ℕ) (s : ℕ → Tree ℕ) → weight_row w (graft_row r s) ≡ weight_row w r + sum_row r (λ i. weight w (s i))
    weight_row-graft none s = omega arith
    weight_row-graft (more t r) s = omega (arith, weight-graft t s, weight_row-graft r s)

  mutual
    ctx_weight : (c : Ctx ℕ) → (m : ℕ) × ((x : Tree ℕ) → weight w (fill c x) ≡ m + weight w x)
    ctx_weight hole = (0, λ x. omega arith)
    ctx_weight (inside l c) = let h = ctx_weight_row c in (w l + h.0, λ x. omega (arith, h.1 x))

    ctx_weight_row : (c : RowCtx ℕ) → (m : ℕ) × ((x : Tree ℕ) → weight_row w (fill_row c x) ≡ m + weight w x)
    ctx_weight_row (here c r) = let h = ctx_weight c in (h.0 + weight_row w r, λ x. omega (arith, h.1 x))
    ctx_weight_row (past t c) = let h = ctx_weight_row c in (weight w t + h.0, λ x. omega (arith, h.1 x))

  abbrev by_weight : ℕ → Tree ℕ → Tree ℕ → Ordering
  by_weight n x y = nat_cmp (weight w x) (weight w y)

  -- an insertion adds one number to the weights of trees with the same leaves
  added : (k : ℕ) (f : Slot) (x y : Tree ℕ) → IsShuffle k x → IsShuffle k y
      → (m : ℕ) × (weight w (fill_slot f x) ≡ m + weight w x) × (weight w (fill_slot f y) ≡ m + weight w y)
  added k f x y hx hy =
      let c = ctx_weight f.context in
      let s : sum_leaves x (λ i. weight w (f.parts i)) ≡ sum_leaves y (λ i. weight w (f.parts i)) = same_sums k x y hx hy (λ i. weight w (f.parts i)) in
      (c.0 + sum_leaves x (λ i. weight w (f.parts i)), omega (arith, c.1 (graft x f.parts), weight-graft x f.parts), omega (arith, c.1 (graft y f.parts), weight-graft y f.parts, s))

  pub weight_keeps : Keeps by_weight
  weight_keeps = record {
    less = λ k n f x y r hx hy v e.
        let a = added k f x y hx hy in let l = nat_less (weight w x) (weight w y) e in
        less_nat (weight w (fill_slot f x)) (weight w (fill_slot f y)) (omega (arith, a.1, a.2, l));
    same = λ k n f x y r hx hy v e.
        let a = added k f x y hx hy in let l = exact_unsigned (weight w x) (weight w y) e in
        same_nat (weight w (fill_slot f x)) (weight w (fill_slot f y)) (omega (arith, a.1, a.2, l));
  }

-- the number of leaves
exact_leaves : (b n : ℕ) (t : Tree ℕ) → IsShuffle n t → b ≤ n → range_sum (suc b) (λ i. occurs i t * 1) ≡ b
exact_leaves zero n t h le = go (dec_lt 0 (occurs 0 t))
  where
    go : Dec (0 < occurs 0 t) → 0 + occurs 0 t * 1 ≡ 0
    go (yes o) = let r = h.only 0 o in absurd (omega (arith, r.0))
    go (no z) = omega (arith, z)
exact_leaves (suc b) n t h le = let o = h.each (suc b) (omega arith) le in let e = exact_leaves b n t h (omega arith) in omega (arith, o, e)

pub leaves_count : (n : ℕ) (t : Tree ℕ) → IsShuffle n t → length (leaves t) ≡ n
leaves_count n t h =
    length_leaves t ∙ by_counts (suc n) t (λ i. 1) (by_leaf t (λ i. i < suc n) (λ i o. let r = h.only i o in omega (arith, r.1))) ∙ exact_leaves n n t h (omega arith)

-- the key where the leaves are 1 to n
abbrev key_at : (ℕ → ℕ) → ℕ → Tree ℕ → Key
key_at f n t = record { words = words_below (suc n) t; row = leaves t; weight = weight f t }

-- a comparison of keys as an order of trees
module _ (arity : ℕ → ℕ) (w : ℕ → ℕ) (C : Key → Key → Ordering) (total : IsTotalOrder C) (keeps : Keeps (λ n x y. C (key_at w n x) (key_at w n y)))
    (only : (a b : Key) → C a b ≡ Equal → (a.words ≡ b.words) × (a.row ≡ b.row)) where
  at_leaf_words : (n : ℕ) (x y : Tree ℕ) → IsShuffle n x → IsShuffle n y → words_below (suc n) x ≡ words_below (suc n) y → leaves x ≡ leaves y → words x ≡ words y
  at_leaf_words n x y hx hy e l =
      sym (under-nil (words x)) ∙ words_tagged x [] word (λ j v h. word_is j v x hx h refl)
      ∙ ap (tag word) l
      ∙ sym (words_tagged y [] word (λ j v h. word_is j v y hy h (at_all n x y hx hy e j))) ∙ under-nil (words y)
    where
      head : List (List ℕ) → List ℕ
      head [] = []
      head (v ∷ k) = v

      word : ℕ → List ℕ
      word j = head (words_at j x)

      word_is : (j : ℕ) (v : List ℕ) (z : Tree ℕ) → IsShuffle n z → HasWord z j v → words_at j x ≡ words_at j z → head (words_at j x) ≡ v
      word_is j v z hz h q = ap head (q ∙ has_at z j v (once_of n z hz j) h)

  kept_at : (k n : ℕ) (f : Slot) (x y : Tree ℕ) → PartsRise k f.parts → IsShuffle k x → IsShuffle k y → IsShuffle n (fill_slot f x)
      → (o : Ordering) → C (key_at w k x) (key_at w k y) ≡ o → C (key_at w n (fill_slot f x)) (key_at w n (fill_slot f y)) ≡ o
  kept_at k n f x y r hx hy v Less e = keeps.less k n f x y r hx hy v e
  kept_at k n f x y r hx hy v Equal e = keeps.same k n f x y r hx hy v e
  kept_at k n f x y r hx hy v Greater e =
      total.antisymm (key_at w n (fill_slot f x)) (key_at w n (fill_slot f y))
      ∙ ap ordering_reverse (keeps.less k n f y x r hy hx (fill_slot-valid k n f x y r hx hy v)
      (turn_greater (C (key_at w k x) (key_at w k y)) (C (key_at w k y) (key_at w k x)) (total.antisymm (key_at w k x) (key_at w k y)) e))

  as_key : (n : ℕ) (x : Tree ℕ) → IsShuffle n x → key w x ≡ key_at w n x
  as_key n x h = ap (λ m. key_at w m x) (leaves_count n x h)

  same_cmp : (n : ℕ) (x y : Tree ℕ) → IsShuffle n x → IsShuffle n y → C (key w x) (key w y) ≡ C (key_at w n x) (key_at w n y)
  same_cmp n x y hx hy = ap₂ C (as_key n x hx) (as_key n y hy)

  kept_slot : (k n : ℕ) (f : Slot) (x y : Tree ℕ) → PartsRise k f.parts → IsShuffle k x → IsShuffle k y → IsShuffle n (fill_slot f x)
      → C (key w (fill_slot f x)) (key w (fill_slot f y)) ≡ C (key w x) (key w y)
  kept_slot k n f x y r hx hy v =
      same_cmp n (fill_slot f x) (fill_slot f y) v (fill_slot-valid k n f x y r hx hy v)
      ∙ kept_at k n f x y r hx hy v (C (key_at w k x) (key_at w k y)) refl
      ∙ sym (same_cmp k x y hx hy)

  pub tree_order : IsTreeOrder arity (λ x y. C (key w x) (key w y))
  tree_order = record {
    equal_only = λ n x y hx hy e.
        let h = only (key_at w n x) (key_at w n y) (sym (same_cmp n x y hx.shuffle hy.shuffle) ∙ e) in
        determined arity x y hx.shuffle.rising hy.shuffle.rising hx.fits hy.fits (at_leaf_words n x y hx.shuffle hy.shuffle h.0 h.1);
    turned = λ x y. total.antisymm (key w x) (key w y);
    transitive = λ x y z e f. total.trans (key w x) (key w y) (key w z) e f;
    kept = λ k n f x y r hx hy v.
        let a = slot_of k f r in
        ap₂ (λ u z. C (key w u) (key w z)) (a.inserts x) (a.inserts y) ∙ kept_slot k n a.slot x y a.rises hx hy (subst (IsShuffle n) (a.inserts x) v);
  }

word_between : (a v w b : List ℕ) → word_cmp v w ≡ Less → word_cmp (a ++ (v ++ b)) (a ++ (w ++ b)) ≡ Less
word_between a v w b e = of_word_less (a ++ (v ++ b)) (a ++ (w ++ b)) (WordLess-between a v w b (word_less_of v w e))

short_between : (a v w b : List ℕ) → short_cmp v w ≡ Less → short_cmp (a ++ (v ++ b)) (a ++ (w ++ b)) ≡ Less
short_between a v w b e = of_short_less (a ++ (v ++ b)) (a ++ (w ++ b)) (ShortLess-between a v w b (short_less_of v w e))

path_words : Keeps (by_words word_cmp word_total word_same word_between)
path_words = words_keep word_cmp word_total word_same word_between

path_keeps : Keeps (λ n x y. ordering_then (by_words word_cmp word_total word_same word_between n x y) (by_row n x y))
path_keeps = keeps_then (by_words word_cmp word_total word_same word_between) by_row path_words row_keeps

path_only : (a b : Key) → path a b ≡ Equal → (a.words ≡ b.words) × (a.row ≡ b.row)
path_only a b e =
    let h = then_equal (slice_cmp word_cmp a.words b.words) (slice_cmp nat_cmp a.row b.row) e in
    (list_same word_cmp word_same a.words b.words h.0, list_same nat_cmp exact_unsigned a.row b.row h.1)

module _ (arity : ℕ → ℕ) (w : ℕ → ℕ) where
  pub path_order : IsTreeOrder arity (λ x y. path (key w x) (key w y))
  path_order = tree_order arity w path path_total path_keeps path_only

  pub pathshort_order : IsTreeOrder arity (λ x y. pathshort (key w x) (key w y))
  pathshort_order = tree_order arity w pathshort pathshort_total
      (keeps_then (by_words short_cmp short_total short_same short_between) by_row (words_keep short_cmp short_total short_same short_between) row_keeps)
      (λ a b e.
      let h = then_equal (slice_cmp short_cmp a.words b.words) (slice_cmp nat_cmp a.row b.row) e in
      (list_same short_cmp short_same a.words b.words h.0, list_same nat_cmp exact_unsigned a.row b.row h.1))

  pub leafpath_order : IsTreeOrder arity (λ x y. leafpath (key w x) (key w y))
  leafpath_order = tree_order arity w leafpath leafpath_total
      (keeps_then by_row (by_words word_cmp word_total word_same word_between) row_keeps path_words)
      (λ a b e.
      let h = then_equal (slice_cmp nat_cmp a.row b.row) (slice_cmp word_cmp a.words b.words) e in
      (list_same word_cmp word_same a.words b.words h.1, list_same nat_cmp exact_unsigned a.row b.row h.0))

  pub weightpath_order : IsTreeOrder arity (λ x y. weightpath (key w x) (key w y))
  weightpath_order = tree_order arity w weightpath weightpath_total
      (keeps_then (by_weight w) (λ n x y. ordering_then (by_words word_cmp word_total word_same word_between n x y) (by_row n x y)) (weight_keeps w) path_keeps)
      (λ a b e. path_only a b (then_equal (nat_cmp a.weight b.weight) (path a b) e).1)
