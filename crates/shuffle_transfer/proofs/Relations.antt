-- Any inputs are rising inputs behind a permutation: an instance of a relation has, with its sign, the shuffle form of an insertion.
use Rattle.std.proofs.Common.{◌≡◌, ℕ, suc, ◌<◌, ◌≤◌, List, sym, ◌∙◌, ap, arith, subst}
use native.Mathlib.Decide.{dec_lt, ℕ_discrete}
use Rattle.labelled_trees.specs.Trees.{Tree, leaf, graft}
use Rattle.labelled_trees.specs.Leaves.{one_if, AllLeaves, occurs}
use Rattle.labelled_trees.specs.Labelled.{Fits, IsLabelled}
use Rattle.labelled_trees.specs.Ranks.{below, standard}
use Rattle.labelled_trees.proofs.Grafts.{graft_assoc, graft_leaf}
use Rattle.labelled_trees.proofs.Leaves.{by_leaf, at_leaf, sum_leaves-≤, AllLeaves-≤}
use Rattle.labelled_trees.proofs.Counts.{leaf_count-labelled}
use Rattle.labelled_trees.proofs.GraftLeaves.{graft_ext, agree, AllLeaves-graft, AllLeaves_of_graft, sum_leaves-graft}
use Rattle.labelled_trees.proofs.Factors.{factor}
use Rattle.labelled_trees.proofs.Fitting.{fits_parts}
use Rattle.labelled_trees.proofs.Ranks.{below-mono, below_all, standard_each, standard_only}
use Rattle.shuffle_insertions.specs.ShuffleTrees.{least, IsRising}
use Rattle.shuffle_insertions.specs.Slots.{PartsRise}
use Rattle.shuffle_insertions.proofs.Insertions.{InRange, order_back}
use Rattle.shuffle_insertions.proofs.Rising.{least-occurs}
use Rattle.shuffle_insertions.proofs.Named.{one_if_le}
use Rattle.shuffle_transfer.specs.ShuffleForms.{form}
use Rattle.shuffle_transfer.proofs.Forms.{form_rises, occurs-form}

-- A labelled tree of arity m with a tree for each of its leaves, whose graft fits and holds no number twice and none above n.
pub record Inputs (arity : ℕ → ℕ) (m n : ℕ) : Type 0 where
  pub tree : Tree ℕ
  pub parts : ℕ → Tree ℕ
  pub labelled : IsLabelled arity m tree
  pub fits : Fits arity (graft tree parts)
  pub single : (i : ℕ) → occurs i (graft tree parts) ≤ 1
  pub range : (i : ℕ) → 0 < occurs i (graft tree parts) → i ≤ n

module _ (label : ℕ → List ℕ → ℕ) (arity : ℕ → ℕ) (m n : ℕ) (given : Inputs arity m n) where
  abbrev x : Tree ℕ
  x = given.tree

  abbrev s : ℕ → Tree ℕ
  s = given.parts

  G : ℕ → Tree ℕ
  G i = form label (s i)

  here : (i : ℕ) → InRange m i → 0 < occurs i x
  here i a = let e : occurs i x ≡ 1 = given.labelled.each i a.0 a.1 in omega (arith, e)

  fits_at : (i : ℕ) → InRange m i → Fits arity (s i)
  fits_at i a = at_leaf x (λ k. Fits arity (s k)) i (fits_parts arity x s given.fits) (here i a)

  single_at : (i : ℕ) → InRange m i → (j : ℕ) → occurs j (s i) ≤ 1
  single_at i a j = at_leaf x (λ k. occurs j (s k) ≤ 1) i
      (AllLeaves-≤ x (λ k. occurs j (s k)) 1 (subst (λ k. k ≤ 1) (sum_leaves-graft x s (λ l. one_if (ℕ_discrete l j))) (given.single j))) (here i a)

  rises_at : (i : ℕ) → InRange m i → IsRising (G i)
  unfolding G
  rises_at i a = form_rises label arity (s i) (fits_at i a) (single_at i a)

  keys : Tree ℕ
  keys = graft x (λ i. leaf (least (G i)))

  key_le : (i : ℕ) → occurs i keys ≤ occurs i (graft x s)
  unfolding keys G
  key_le i =
      rw (sum_leaves-graft x (λ a. leaf (least (form label (s a)))) (λ l. one_if (ℕ_discrete l i)), sum_leaves-graft x s (λ l. one_if (ℕ_discrete l i)))
      (sum_leaves-≤ x (λ a. one_if (ℕ_discrete (least (form label (s a))) i)) (λ a. occurs i (s a))
      (by_leaf x (λ a. one_if (ℕ_discrete (least (form label (s a))) i) ≤ occurs i (s a)) (λ a o. let r = given.labelled.only a o in one a r)))
    where
      one : (a : ℕ) → InRange m a → one_if (ℕ_discrete (least (form label (s a))) i) ≤ occurs i (s a)
      one a r = subst (λ k. one_if (ℕ_discrete (least (form label (s a))) i) ≤ k) (occurs-form label i (s a))
          (one_if_le i (form label (s a)) (ℕ_discrete (least (form label (s a))) i) (least-occurs (form label (s a)) (rises_at a r)))

  once_keys : (i : ℕ) → occurs i keys ≤ 1
  once_keys i = omega (arith, key_le i, given.single i)

  keys_low : AllLeaves keys (λ k. k < suc n)
  keys_low = by_leaf keys (λ k. k < suc n) (λ k o. let r : k ≤ n = given.range k (omega (arith, key_le k, o)) in omega (arith, r))

  pub ranked : ℕ → ℕ
  ranked i = suc (below (least (G i)) keys)

  -- the tree with ranks for its leaves
  abbrev pub relabel : Tree ℕ → Tree ℕ
  relabel y = graft y (λ i. leaf (ranked i))

  relabel_is : relabel x ≡ standard keys
  unfolding ranked keys
  relabel_is = sym (graft_assoc x (λ i. leaf (least (G i))) (λ i. leaf (suc (below i (graft x (λ j. leaf (least (G j))))))))

  number : below (suc n) keys ≡ m
  unfolding keys
  number =
      below_all (suc n) keys keys_low ∙ sum_leaves-graft x (λ i. leaf (least (G i))) (λ i. 1) ∙ leaf_count-labelled arity m x given.labelled

  each_rank : (i : ℕ) → 0 < i → i ≤ m → occurs i (relabel x) ≡ 1
  each_rank i p le = ap (occurs i) relabel_is ∙ standard_each (suc n) keys keys_low once_keys i p (omega (arith, le, number))

  only_rank : (i : ℕ) → 0 < occurs i (relabel x) → InRange m i
  only_rank i o = let r = standard_only (suc n) keys keys_low once_keys i (subst (λ k. 0 < k) (ap (occurs i) relabel_is) o) in (r.0, omega (arith, r.1, number))

  pub rank_within : (i : ℕ) → InRange m i → InRange m (ranked i)
  rank_within i a = at_leaf x (λ k. InRange m (ranked k)) i (AllLeaves_of_graft x (λ k. leaf (ranked k)) (InRange m) (by_leaf (relabel x) (InRange m) only_rank)) (here i a)

  once_rank : (i : ℕ) → occurs i (relabel x) ≤ 1
  once_rank i = go (dec_lt 0 (occurs i (relabel x)))
    where
      go : Dec (0 < occurs i (relabel x)) → occurs i (relabel x) ≤ 1
      go (yes o) = let r = only_rank i o in let e : occurs i (relabel x) ≡ 1 = each_rank i r.0 r.1 in omega (arith, e)
      go (no z) = omega arith

  found : (f : ℕ → ℕ) × (x ≡ graft (relabel x) (λ i. leaf (f i)))
  found = factor (relabel x) x ranked (λ i. i) 0 once_rank (sym (graft_leaf (relabel x)))

  pub behind : ℕ → ℕ
  behind = found.0

  pub behind_rank : (i : ℕ) → InRange m i → i ≡ behind (ranked i)
  unfolding behind
  behind_rank i a = at_leaf x (λ k. k ≡ found.0 (ranked k)) i
      (agree x (λ k. k) (λ k. found.0 (ranked k)) (graft_leaf x ∙ found.1 ∙ graft_assoc x (λ k. leaf (ranked k)) (λ k. leaf (found.0 k)))) (here i a)

  there : (j : ℕ) → InRange m j → 0 < occurs j (relabel x)
  there j a = let e : occurs j (relabel x) ≡ 1 = each_rank j a.0 a.1 in omega (arith, e)

  rank_behind : (j : ℕ) → InRange m j → ranked (behind j) ≡ j
  unfolding behind
  rank_behind j a = at_leaf (relabel x) (λ k. ranked (found.0 k) ≡ k) j
      (agree (relabel x) (λ k. ranked (found.0 k)) (λ k. k)
      (sym (graft_assoc (relabel x) (λ k. leaf (found.0 k)) (λ k. leaf (ranked k))) ∙ ap (λ y. graft y (λ k. leaf (ranked k))) (sym found.1) ∙ sym (graft_leaf (relabel x)))) (there j a)

  pub behind_within : (j : ℕ) → InRange m j → InRange m (behind j)
  unfolding behind
  behind_within j a = at_leaf (relabel x) (λ k. InRange m (found.0 k)) j
      (AllLeaves_of_graft (relabel x) (λ k. leaf (found.0 k)) (InRange m) (subst (λ y. AllLeaves y (InRange m)) found.1 (by_leaf x (InRange m) given.labelled.only))) (there j a)

  pub rank_apart : (i j : ℕ) → InRange m i → InRange m j → ranked i ≡ ranked j → i ≡ j
  rank_apart i j a b e = behind_rank i a ∙ ap behind e ∙ sym (behind_rank j b)

  -- the inputs in rising order
  pub lined : ℕ → Tree ℕ
  lined j = s (behind j)

  in_order : (i j : ℕ) → InRange m i → InRange m j → i < j → Dec (least (G (behind i)) < least (G (behind j))) → least (G (behind i)) < least (G (behind j))
  unfolding ranked
  in_order i j a b lt (yes h) = h
  in_order i j a b lt (no h) =
      let k : below (least (G (behind j))) keys ≤ below (least (G (behind i))) keys = below-mono (least (G (behind j))) (least (G (behind i))) keys (omega (arith, h)) in
      let u : suc (below (least (G (behind i))) keys) ≡ i = rank_behind i a in
      let v : suc (below (least (G (behind j))) keys) ≡ j = rank_behind j b in
      absurd (omega (arith, k, u, v, lt))

  pub lined_order : (i j : ℕ) → InRange m i → InRange m j → i < j → least (form label (lined i)) < least (form label (lined j))
  unfolding lined G
  lined_order i j a b lt = in_order i j a b lt (dec_lt (least (G (behind i))) (least (G (behind j))))

  pub lined_back : (i j : ℕ) → InRange m i → InRange m j → least (form label (lined i)) < least (form label (lined j)) → i < j
  lined_back = order_back (InRange m) (λ k. least (form label (lined k))) lined_order

  pub lined_rise : PartsRise m (λ j. form label (lined j))
  unfolding lined G
  lined_rise = record {
    each = λ i p le. rises_at (behind i) (behind_within i (p, le));
    order = λ i j p lt le. lined_order i j (p, omega arith) (omega arith, le) lt;
  }

  -- a labelled tree with these inputs
  pub lined_graft : (y : Tree ℕ) → IsLabelled arity m y → graft y s ≡ graft (relabel y) lined
  unfolding lined
  lined_graft y hy = graft_ext y s (λ i. s (behind (ranked i))) (by_leaf y (λ i. s i ≡ s (behind (ranked i))) (λ i o. ap s (behind_rank i (hy.only i o))))
      ∙ sym (graft_assoc y (λ i. leaf (ranked i)) (λ j. s (behind j)))

  pub relabel_among : (y : Tree ℕ) → IsLabelled arity m y → AllLeaves (relabel y) (InRange m)
  relabel_among y hy = AllLeaves-graft y (λ i. leaf (ranked i)) (InRange m) (by_leaf y (λ i. InRange m (ranked i)) (λ i o. rank_within i (hy.only i o)))
