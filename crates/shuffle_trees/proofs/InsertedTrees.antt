-- Insertion into a valid frame gives a valid tree.
use Rattle.std.proofs.Common.{◌≡◌, ℕ, zero, suc, ◌+◌, ◌*◌, ◌<◌, ◌≤◌, List, [], ◌∷◌, length, get_or, refl, ap, sym, ◌∙◌, subst, arith}
use native.Mathlib.Decide.{ℕ_discrete}
use Rattle.labelled_trees.specs.Trees.{Tree, Row, leaf, node, none, more, row, graft, graft_row}
use Rattle.labelled_trees.specs.Leaves.{AllLeaves, AllRow, sum_leaves, sum_row, occurs, occurs_row, one_if}
use Rattle.labelled_trees.specs.RangeSums.{range_sum}
use Rattle.labelled_trees.specs.Contexts.{Ctx, RowCtx, hole, inside, here, past, fill, fill_row}
use Rattle.labelled_trees.specs.Insertions.{put, at_zero, item, listed}
use Rattle.labelled_trees.proofs.Fitting.{width-graft}
use Rattle.labelled_trees.proofs.GraftLeaves.{sum_leaves-graft}
use Rattle.labelled_trees.proofs.Insertions.{put-fill}
use Rattle.labelled_trees.proofs.Leaves.{AllLeaves-each, at_leaf, by_leaf, one_if-yes}
use Rattle.labelled_trees.proofs.RangeSums.{by_counts}
use Rattle.shuffle_insertions.specs.ShuffleTrees.{least, least_row, IsRising, IsShuffle}
use Rattle.shuffle_insertions.specs.Frames.{Frame, insert}
use Rattle.shuffle_insertions.proofs.Frames.{frame_of, SlotOf, slot_of}
use Rattle.shuffle_insertions.proofs.Insertions.{least-graft, rising-graft}
use Rattle.shuffle_insertions.proofs.Rising.{rising-fill, least-le, least-occurs}
use Rattle.shuffle_trees.specs.ValidTrees.{IsWide, AreWide, IsValid}
use Rattle.shuffle_trees.specs.ValidFrames.{IsValidFrame}
use Rattle.shuffle_trees.proofs.Inputs.{is_frame_for}

-- the item at a place, counted from 1
pub item_at : (ts : List (Tree ℕ)) (i : ℕ) (t : Tree ℕ) → i < length ts → t ≡ get_or ts i t → item ts (suc i) ≡ t
item_at [] i t lt e = absurd (omega arith)
item_at (u ∷ ts) zero t lt e = sym e
item_at (u ∷ ts) (suc i) t lt e = item_at ts i t (omega arith) e

-- ---- width

mutual
  wide-graft : (t : Tree ℕ) (s : ℕ → Tree ℕ) → IsWide t → AllLeaves t (λ a. IsWide (s a)) → IsWide (graft t s)
  wide-graft (leaf a) s h k = k
  wide-graft (node l r) s h k = (subst (λ n. 2 ≤ n) (sym (width-graft r s)) h.0, wide_row-graft r s h.1 k)

  wide_row-graft : (r : Row ℕ) (s : ℕ → Tree ℕ) → AreWide r → AllRow r (λ a. IsWide (s a)) → AreWide (graft_row r s)
  wide_row-graft none s h k = tt
  wide_row-graft (more t r) s h k = (wide-graft t s h.0 k.0, wide_row-graft r s h.1 k.1)

item_wide : (ts : List (Tree ℕ)) → AreWide (row ts) → (i : ℕ) → IsWide (item ts i)
item_wide [] h i = tt
item_wide (t ∷ ts) h zero = tt
item_wide (t ∷ ts) h (suc zero) = h.0
item_wide (t ∷ ts) h (suc (suc i)) = item_wide ts h.1 (suc i)

zero_wide : (y : Tree ℕ) → IsWide y → (i : ℕ) → IsWide (at_zero y i)
zero_wide y h zero = h
zero_wide y h (suc i) = tt

inserted_wide : (f : Frame) (x : Tree ℕ) → IsValidFrame f → IsWide x → IsWide (insert f x)
inserted_wide f x v w =
    let y = wide-graft x (item f.inputs) w (AllLeaves-each x (λ i. IsWide (item f.inputs i)) (item_wide f.inputs v.inputs_wide)) in
    wide-graft f.hole (at_zero (graft x (item f.inputs))) v.wide (AllLeaves-each f.hole (λ i. IsWide (at_zero (graft x (item f.inputs)) i)) (zero_wide (graft x (item f.inputs)) y))

-- ---- leaves

mutual
  -- a tree in the hole brings its leaves, and takes leaf 0 away
  pub sum_in_hole : (c : Ctx ℕ) (y : Tree ℕ) (f : ℕ → ℕ) → sum_leaves (fill c y) f + f 0 ≡ sum_leaves (fill c (leaf 0)) f + sum_leaves y f
  sum_in_hole hole y f = omega arith
  sum_in_hole (inside l c) y f = sum_in_hole_row c y f

  sum_in_hole_row : (c : RowCtx ℕ) (y : Tree ℕ) (f : ℕ → ℕ) → sum_row (fill_row c y) f + f 0 ≡ sum_row (fill_row c (leaf 0)) f + sum_leaves y f
  sum_in_hole_row (here c r) y f = omega (arith, sum_in_hole c y f)
  sum_in_hole_row (past t c) y f = omega (arith, sum_in_hole_row c y f)

-- the sum over the leaves of s (a + 1) to s (a + k)
abbrev total : (ℕ → Tree ℕ) → ℕ → ℕ → (ℕ → ℕ) → ℕ
total s a k f = sum_row (row (listed s a k)) f

total_last : (s : ℕ → Tree ℕ) (a k : ℕ) (f : ℕ → ℕ) → total s a (suc k) f ≡ total s a k f + sum_leaves (s (suc (a + k))) f
total_last s a zero f = let e : suc (a + 0) ≡ suc a = omega arith in rw e (omega arith)
total_last s a (suc k) f = let e : suc (suc a + k) ≡ suc (a + suc k) = omega arith in
    let t = total_last s (suc a) k f in let same = ap (λ n. sum_leaves (s n) f) e in omega (arith, t, same)

-- a sum over the numbers from 0 to m, of which 0 counts for nothing and the others once
from_one : (s : ℕ → Tree ℕ) (f occ : ℕ → ℕ) (m : ℕ) → occ 0 ≡ 0 → ((i : ℕ) → 0 < i → i ≤ m → occ i ≡ 1) → range_sum (suc m) (λ a. occ a * sum_leaves (s a) f) ≡ total s 0 m f
from_one s f occ zero z h = let e : occ 0 * sum_leaves (s 0) f ≡ 0 = rw z (omega arith) in omega (arith, e)
from_one s f occ (suc m) z h =
    let before = from_one s f occ m z (λ i p le. h i p (omega arith)) in
    let one : occ (suc m) * sum_leaves (s (suc m)) f ≡ sum_leaves (s (suc m)) f = rw (h (suc m) (omega arith) (omega arith)) (omega arith) in
    let last = total_last s 0 m f in
    let same : sum_leaves (s (suc (0 + m))) f ≡ sum_leaves (s (suc m)) f = (let e : suc (0 + m) ≡ suc m = omega arith in ap (λ n. sum_leaves (s n) f) e) in
    omega (arith, before, one, last, same)

no_zero : (k : ℕ) (x : Tree ℕ) → IsShuffle k x → occurs 0 x ≡ 0
no_zero k x h = let none : 0 < occurs 0 x → ⊥ = λ o. (let w = h.only 0 o in omega (arith, w.0)) in omega (arith, none)

-- the leaves of the inputs stand at the leaves of a tree
pub sum_of_parts : (k : ℕ) (s : ℕ → Tree ℕ) (x : Tree ℕ) (f : ℕ → ℕ) → IsShuffle k x → sum_leaves (graft x s) f ≡ total s 0 k f
sum_of_parts k s x f h =
    sum_leaves-graft x s f ∙ by_counts (suc k) x (λ a. sum_leaves (s a) f) (by_leaf x (λ i. i < suc k) (λ i o. let w = h.only i o in omega (arith, w.1)))
    ∙ from_one s f (λ i. occurs i x) k (no_zero k x h) h.each

pub least_is_one : (k : ℕ) (x : Tree ℕ) → 0 < k → IsShuffle k x → least x ≡ 1
least_is_one k x p h =
    let one : occurs 1 x ≡ 1 = h.each 1 (omega arith) (omega (arith, p)) in
    let low : least x ≤ 1 = at_leaf x (λ i. least x ≤ i) 1 (least-le x h.rising) (omega (arith, one)) in
    let w = h.only (least x) (least-occurs x h.rising) in
    omega (arith, low, w.0)

pub first_listed : (s : ℕ → Tree ℕ) (k : ℕ) → 0 < k → least_row (row (listed s 0 k)) ≡ least (s 1)
first_listed s zero p = absurd (omega arith)
first_listed s (suc k) p = refl

-- a valid frame as a context with a function
module _ (f : Frame) (v : IsValidFrame f) (x : Tree ℕ) (hx : IsShuffle (length f.inputs) x) (d : SlotOf (length f.inputs) f) where
  hole_is : f.hole ≡ fill d.slot.context (leaf 0)
  unfolding frame_of
  hole_is = ap (λ (g : Frame). g.hole) (sym d.back)

  inputs_are : f.inputs ≡ listed d.slot.parts 0 (length f.inputs)
  unfolding frame_of
  inputs_are = ap (λ (g : Frame). g.inputs) (sym d.back)

  counts : (i : ℕ) → occurs i (insert f x) + one_if (ℕ_discrete 0 i) ≡ occurs i f.hole + occurs_row i (row f.inputs)
  counts i =
      let into = ap (occurs i) (d.inserts x) in
      let step = sum_in_hole d.slot.context (graft x d.slot.parts) (λ n. one_if (ℕ_discrete n i)) in
      let parts = sum_of_parts (length f.inputs) d.slot.parts x (λ n. one_if (ℕ_discrete n i)) hx in
      let lower = ap (occurs i) hole_is in
      let rows = ap (λ ts. occurs_row i (row ts)) inputs_are in
      omega (arith, into, step, parts, lower, rows)

  rising_inside : IsRising (insert f x)
  rising_inside =
      let c = d.slot.context in
      let s = d.slot.parts in
      let k = length f.inputs in
      let zero_once : occurs 0 (fill c (leaf 0)) ≤ 1 = subst (λ t. occurs 0 t ≤ 1) hole_is (let o = v.context in omega (arith, o)) in
      let first : least_row (row f.inputs) ≡ least (graft x s) =
      ap (λ ts. least_row (row ts)) inputs_are ∙ first_listed s k v.has_input ∙ sym (least-graft k s d.rises x hx ∙ ap (λ n. least (s n)) (least_is_one k x v.has_input hx)) in
      let start = subst (λ t. IsRising (put t (leaf (least_row (row f.inputs))))) hole_is v.rising in
      let filled = subst IsRising (put-fill c (leaf (least_row (row f.inputs))) zero_once) start in
      subst IsRising (sym (d.inserts x)) (rising-fill c (leaf (least_row (row f.inputs))) (graft x s) first (rising-graft k s d.rises x hx) filled)

  no_zero_inside : occurs 0 (insert f x) ≡ 0
  no_zero_inside = let c = counts 0 in let one = one_if-yes (ℕ_discrete 0 0) refl in let o = v.once 0 in let h = v.context in omega (arith, c, one, o, h)

  only_inside : (i : ℕ) → 0 < occurs i (insert f x) → (0 < i) × (i < 256)
  only_inside zero o = absurd (omega (arith, o, no_zero_inside))
  only_inside (suc i) o = (omega arith, v.small (suc i) (omega (arith, o, counts (suc i))))

  valid_inside : IsWide x → IsValid (insert f x)
  valid_inside w = record {
    wide = inserted_wide f x v w;
    rising = rising_inside;
    once = λ i. omega (arith, counts i, v.once i);
    only = only_inside;
  }

pub inserted_valid : (f : Frame) (x : Tree ℕ) → IsValidFrame f → IsShuffle (length f.inputs) x → IsValid x → IsValid (insert f x)
inserted_valid f x v hx w = valid_inside f v x hx (slot_of (length f.inputs) f (is_frame_for f v)) w.wide
