-- What fills a slot.
use Rattle.std.proofs.Common.{◌≡◌, ℕ, ◌<◌, ◌≤◌, sym, ◌∙◌, ap, arith, subst}
use native.Mathlib.Decide.{ℕ_discrete, dec_lt}
use Rattle.labelled_trees.specs.Trees.{Tree, leaf, graft}
use Rattle.shuffle_insertions.specs.ShuffleTrees.{least, IsRising, IsShuffle}
use Rattle.labelled_trees.specs.Labelled.{Fits}
use Rattle.labelled_trees.specs.Leaves.{AllLeaves, one_if, occurs}
use Rattle.shuffle_insertions.specs.Slots.{Slot, fill_slot, PartsRise}
use Rattle.labelled_trees.proofs.Grafts.{graft_leaf}
use Rattle.labelled_trees.proofs.Leaves.{by_leaf, at_leaf}
use Rattle.labelled_trees.proofs.GraftLeaves.{sum_leaves-graft}
use Rattle.shuffle_insertions.proofs.LabelSums.{same_counts, same_sums}
use Rattle.labelled_trees.proofs.ContextLeaves.{sum-fill}
use Rattle.shuffle_insertions.proofs.Rising.{head, rising_change, rising-fill, least_same}
use Rattle.labelled_trees.proofs.Fitting.{fits_parts, fits-graft, fits_of_fill, fits-fill, fits_of_graft}

abbrev pub InRange : ℕ → ℕ → Type 0
InRange k i = (0 < i) × (i ≤ k)

pub all_among : (k : ℕ) (x : Tree ℕ) → IsShuffle k x → AllLeaves x (InRange k)
all_among k x h = by_leaf x (InRange k) h.only

-- shuffle trees with the same labels have the same least leaf
pub same_least : (k : ℕ) (x y : Tree ℕ) → IsShuffle k x → IsShuffle k y → least x ≡ least y
same_least k x y hx hy = least_same x y hx.rising hy.rising (same_counts k x y hx hy)

-- the parts of a slot stand in order
pub parts_in_order : (k : ℕ) (s : ℕ → Tree ℕ) → PartsRise k s → (i j : ℕ) → InRange k i → InRange k j → i < j → least (s i) < least (s j)
parts_in_order k s h i j a b lt = h.order i j a.0 lt b.1

-- a function that rises on some numbers tells their order
pub order_back : (P : ℕ → Type 0) (f : ℕ → ℕ) → ((i j : ℕ) → P i → P j → i < j → f i < f j) → (i j : ℕ) → P i → P j → f i < f j → i < j
order_back P f up i j a b lt = go (dec_lt i j) (ℕ_discrete i j)
  where
    go : Dec (i < j) → Dec (i ≡ j) → i < j
    go (yes h) e = h
    go (no h) (yes e) = let same : f i ≡ f j = ap f e in absurd (omega (arith, same, lt))
    go (no h) (no n) = let turned : f j < f i = up j i b a (omega (arith, h, n)) in absurd (omega (arith, turned, lt))

module _ (k : ℕ) (s : ℕ → Tree ℕ) (h : PartsRise k s) (x : Tree ℕ) (hx : IsShuffle k x) where
  pub least-graft : least (graft x s) ≡ least (s (least x))
  least-graft =
      let y = head ℕ (InRange k) leaf s (λ i a. h.each i a.0 a.1) (parts_in_order k s h) x (rw graft_leaf hx.rising) (all_among k x hx) in
      y.3 ∙ ap (λ n. least (s n)) (sym y.2 ∙ ap least (graft_leaf x))

  pub rising-graft : IsRising (graft x s)
  rising-graft = rising_change ℕ (InRange k) leaf s (λ i a. h.each i a.0 a.1) (parts_in_order k s h) x (rw graft_leaf hx.rising) (all_among k x hx)

pub occurs-graft : (k : ℕ) (s : ℕ → Tree ℕ) (x y : Tree ℕ) → IsShuffle k x → IsShuffle k y → (i : ℕ) → occurs i (graft x s) ≡ occurs i (graft y s)
occurs-graft k s x y hx hy i =
    sum_leaves-graft x s (λ n. one_if (ℕ_discrete n i)) ∙ same_sums k x y hx hy (λ a. occurs i (s a)) ∙ sym (sum_leaves-graft y s (λ n. one_if (ℕ_discrete n i)))

-- where one shuffle tree may be inserted, each with the same labels may
pub fill_slot-valid : (k n : ℕ) (f : Slot) (x y : Tree ℕ) → PartsRise k f.parts → IsShuffle k x → IsShuffle k y → IsShuffle n (fill_slot f x) → IsShuffle n (fill_slot f y)
fill_slot-valid k n f x y h hx hy w = record {
  rising = rising-fill f.context (graft x f.parts) (graft y f.parts) same (rising-graft k f.parts h y hy) w.rising;
  each = λ i a b. sym (counts i) ∙ w.each i a b;
  only = λ i o. w.only i (subst (λ m. 0 < m) (sym (counts i)) o);
}
  where
    same : least (graft x f.parts) ≡ least (graft y f.parts)
    same = least-graft k f.parts h x hx ∙ ap (λ m. least (f.parts m)) (same_least k x y hx hy) ∙ sym (least-graft k f.parts h y hy)

    counts : (i : ℕ) → occurs i (fill_slot f x) ≡ occurs i (fill_slot f y)
    counts i = sum-fill f.context (graft x f.parts) (graft y f.parts) (λ n. one_if (ℕ_discrete n i)) (occurs-graft k f.parts x y hx hy i)

-- and over labels
pub fill_slot-fits : (arity : ℕ → ℕ) (k : ℕ) (f : Slot) (x y : Tree ℕ) → IsShuffle k x → IsShuffle k y → Fits arity (fill_slot f x) → Fits arity y → Fits arity (fill_slot f y)
fill_slot-fits arity k f x y hx hy h b = fits-fill arity f.context (graft x f.parts) (graft y f.parts) h
    (fits-graft arity y f.parts b (by_leaf y (λ i. Fits arity (f.parts i)) (λ i o.
    let r = hy.only i o in let e = hx.each i r.0 r.1 in
    at_leaf x (λ j. Fits arity (f.parts j)) i (fits_parts arity x f.parts (fits_of_fill arity f.context (graft x f.parts) h)) (omega (arith, e)))))

-- what fills a slot over labels is over the labels
pub fits_of_slot : (arity : ℕ → ℕ) (f : Slot) (x : Tree ℕ) → Fits arity (fill_slot f x) → Fits arity x
fits_of_slot arity f x h = fits_of_graft arity x f.parts (fits_of_fill arity f.context (graft x f.parts) h)
