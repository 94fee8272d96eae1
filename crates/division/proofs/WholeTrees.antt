-- What insertion at the root and in an input makes is valid, and has the leaves of the host.
use Rattle.std.proofs.Common.{◌≡◌, ℕ, ◌<◌, ◌≤◌, zero, suc, List, refl, sym, ◌∙◌, ap, arith, subst}
use Rattle.labelled_trees.specs.Trees.{Tree, Row, leaf, node, none, more, graft, graft_row, width}
use Rattle.labelled_trees.specs.Leaves.{AllLeaves, AllRow, occurs}
use Rattle.labelled_trees.specs.Labelled.{Fits}
use Rattle.labelled_trees.proofs.Fitting.{fits_parts, fits-graft}
use Rattle.labelled_trees.proofs.Leaves.{at_leaf, by_leaf}
use Rattle.shuffle_insertions.specs.ShuffleTrees.{IsRising, IsShuffle}
use Rattle.shuffle_insertions.specs.Slots.{PartsRise}
use Rattle.shuffle_insertions.proofs.Insertions.{rising-graft, occurs-graft}
use Rattle.shuffle_insertions.proofs.Named.{parts_rise}
use Rattle.shuffle_trees.specs.ValidTrees.{IsValid, IsWide, AreWide}
use Rattle.shuffle_places.specs.RootPlaces.{IsShuffleAmong, DividesRoot}
use Rattle.shuffle_sums.specs.Shelves.{HasLeavesAmong}
use Rattle.shuffle_trees.specs.LabelLists.{arity_in}

mutual
  -- the hanging parts of a wide tree are wide
  wide_parts : (t : Tree ℕ) (s : ℕ → Tree ℕ) → IsWide (graft t s) → AllLeaves t (λ i. IsWide (s i))
  wide_parts (leaf i) s h = h
  wide_parts (node l r) s h = wide_parts_row r s h.1

  wide_parts_row : (r : Row ℕ) (s : ℕ → Tree ℕ) → AreWide (graft_row r s) → AllRow r (λ i. IsWide (s i))
  wide_parts_row none s h = tt
  wide_parts_row (more t r) s h = (wide_parts t s h.0, wide_parts_row r s h.1)

width-graft : (r : Row ℕ) (s : ℕ → Tree ℕ) → width (graft_row r s) ≡ width r
width-graft none s = refl
width-graft (more t r) s = ap suc (width-graft r s)

mutual
  wide-graft : (t : Tree ℕ) (s : ℕ → Tree ℕ) → IsWide t → AllLeaves t (λ i. IsWide (s i)) → IsWide (graft t s)
  wide-graft (leaf i) s h k = k
  wide-graft (node l r) s h k = (subst (λ n. 2 ≤ n) (sym (width-graft r s)) h.0, wide-graft_row r s h.1 k)

  wide-graft_row : (r : Row ℕ) (s : ℕ → Tree ℕ) → AreWide r → AllRow r (λ i. IsWide (s i)) → AreWide (graft_row r s)
  wide-graft_row none s h k = tt
  wide-graft_row (more t r) s h k = (wide-graft t s h.0 k.0, wide-graft_row r s h.1 k.1)

pub among_of_valid : (t : Tree ℕ) → IsValid t → IsShuffleAmong 255 t
among_of_valid t v = record { rising = v.rising; once = v.once; only = λ i o. let h = v.only i o in omega (arith, h.0, h.1) }

pub valid_zero : (t : Tree ℕ) → IsValid t → occurs 0 t ≡ 0
valid_zero t v = go (occurs 0 t) refl
  where
    go : (n : ℕ) → occurs 0 t ≡ n → n ≡ 0
    go zero e = refl
    go (suc n) e = let h = v.only 0 (omega (arith, e)) in absurd (omega (arith, h.0))

module _ (k : ℕ) (lead host : Tree ℕ) (parts : ℕ → Tree ℕ) (valid : IsValid host) (hl : IsShuffle k lead) (d : DividesRoot k lead host parts) (y : Tree ℕ) (hy : IsShuffle k y) where
  stands : (i : ℕ) → 0 < i → i ≤ k → 0 < occurs i lead
  stands i p le = let e : occurs i lead ≡ 1 = hl.each i p le in omega (arith, e)

  rises : PartsRise k parts
  rises = record {
    each = λ i p le. at_leaf lead (λ j. IsRising (parts j)) i (parts_rise lead parts (subst IsRising (sym d.whole) valid.rising)) (stands i p le);
    order = d.order;
  }

  -- it has the leaves of the host
  pub root_leaves : (n : ℕ) → occurs n (graft y parts) ≡ occurs n host
  root_leaves n = occurs-graft k parts y lead hy hl n ∙ ap (occurs n) d.whole

  root_valid : IsWide y → IsValid (graft y parts)
  root_valid w = record {
    wide = wide-graft y parts w (by_leaf y (λ i. IsWide (parts i)) (λ i o. let r = hy.only i o in
        at_leaf lead (λ j. IsWide (parts j)) i (wide_parts lead parts (subst IsWide (sym d.whole) valid.wide)) (stands i r.0 r.1)));
    rising = rising-graft k parts rises y hy;
    once = λ i. let e = root_leaves i in let o = valid.once i in omega (arith, e, o);
    only = λ i o. let e = root_leaves i in valid.only i (omega (arith, e, o));
  }

  -- it belongs to the labels where the host does
  root_fits : (arity : ℕ → ℕ) → Fits arity host → Fits arity y → Fits arity (graft y parts)
  root_fits arity fits own = fits-graft arity y parts own (by_leaf y (λ i. Fits arity (parts i)) (λ i o. let r = hy.only i o in
      at_leaf lead (λ j. Fits arity (parts j)) i (fits_parts arity lead parts (subst (Fits arity) (sym d.whole) fits)) (stands i r.0 r.1)))

  pub root_belongs : (labels : List ℕ) (most : ℕ) → HasLeavesAmong labels most host → HasLeavesAmong labels most y → HasLeavesAmong labels most (graft y parts)
  root_belongs labels most h own = record {
    fits = root_fits (arity_in labels) h.fits own.fits;
    valid = root_valid own.valid.wide;
    among = λ i o. h.among i (let e = root_leaves i in omega (arith, e, o));
  }
