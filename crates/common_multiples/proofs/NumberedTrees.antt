-- Trees with the numbers from 1 on at their leaves, trees of the same shape, and the numbers that one has for the other's.
use Rattle.std.proofs.Common.{◌≡◌, ℕ, suc, ◌+◌, ◌<◌, ◌≤◌, List, [], ◌∷◌, map, refl, sym, ◌∙◌, ap, arith, subst, inl, inr}
use Rattle.std.specs.Prelude.{slice_index}
use mathlib.Core.List.{◌++◌}
use mathlib.Core.Path.{ap₂}
use native.Mathlib.Decide.{ℕ_discrete}
use Rattle.modular_sums.specs.Lists.{Mem, Distinct}
use Rattle.modular_sums.proofs.Lists.{mem_map, mem_of_map}
use Rattle.labelled_trees.specs.Trees.{Tree, Row, leaf, node, none, more, graft, graft_row, leaves, vertices}
use Rattle.labelled_trees.specs.Labelled.{IsNumbered}
use Rattle.labelled_trees.specs.Leaves.{AllLeaves, AllRow, occurs}
use Rattle.labelled_trees.proofs.Factors.{factor}
use Rattle.labelled_trees.proofs.Grafts.{graft_assoc}
use Rattle.labelled_trees.proofs.GraftLeaves.{graft_ext, agree_graft, leaves-changed}
use Rattle.labelled_trees.proofs.Leaves.{at_leaf}
use Rattle.labelled_trees.proofs.Numbered.{numbered_once}
use Rattle.labelled_trees.proofs.Permutations.{times-leaves}
use Rattle.shuffle_insertions.specs.Listing.{upto}
use Rattle.shuffle_insertions.specs.ShuffleTrees.{least, least_row, HasInput, IsRising, IsRisingRow, IsShuffle}
use Rattle.shuffle_insertions.specs.Slots.{PartsRise}
use Rattle.shuffle_insertions.proofs.Counted.{mem_times, times_mem, distinct_times}
use Rattle.shuffle_insertions.proofs.LabelSums.{once_of}
use Rattle.shuffle_insertions.proofs.Splits.{count}
use Rattle.shuffle_insertions.proofs.Upto.{upto_count, upto_mem, in_upto}
use Rattle.shuffle_places.specs.Cuts.{numbers, numbers_row}
use Rattle.shuffle_places.specs.Overlays.{shape}
use Rattle.common_multiples.proofs.LaidParts.{numbers-named}

-- a tree with the leaves 1 to n has each of these numbers once, and no other
pub numbered_by_leaves : (n : ℕ) (t : Tree ℕ) → leaves t ≡ upto n → IsNumbered n t
numbered_by_leaves n t e = record {
  each = λ i p le. counts i ∙ (upto_count n i).0 p le;
  only = λ i o. (upto_count n i).1 (subst (λ x. 0 < x) (counts i) o);
}
  where
    counts : (i : ℕ) → occurs i t ≡ count i (upto n)
    counts i = sym (times-leaves i t) ∙ ap (count i) e

-- a tree of the same shape is that tree with other numbers at its leaves
pub renumbered : (n : ℕ) (host tree : Tree ℕ) → leaves tree ≡ upto n → shape host ≡ shape tree → (number : ℕ → ℕ) × (host ≡ graft tree (λ i. leaf (number i)))
renumbered n host tree e s = factor {Y = Unit {0}} tree host (λ i. tt) (λ i. tt) 0 (numbered_once (numbered_by_leaves n tree e)) s

mutual
  -- the first leaf of a tree with other numbers at its leaves, where each vertex has an input
  pub least-named : (t : Tree ℕ) (name : ℕ → ℕ) → IsRising (graft t (λ i. leaf (name i))) → least (graft t (λ i. leaf (name i))) ≡ name (least t)
  least-named (leaf i) name h = refl
  least-named (node l r) name h = least_row-named r name h.0 h.1

  pub least_row-named : (r : Row ℕ) (name : ℕ → ℕ) → HasInput (graft_row r (λ i. leaf (name i))) → IsRisingRow (graft_row r (λ i. leaf (name i)))
      → least_row (graft_row r (λ i. leaf (name i))) ≡ name (least_row r)
  least_row-named none name h g = absurd h
  least_row-named (more t r) name h g = least-named t name g.0

mutual
  -- the numbers of a pattern's vertices depend on the parts at its leaves alone
  pub numbers-same : {X A : Type 0} (f g : X → Tree A) (k : ℕ) (t : Tree X) → AllLeaves t (λ i. f i ≡ g i) → numbers f k t ≡ numbers g k t
  numbers-same f g k (leaf x) h = refl
  numbers-same f g k (node l r) h = ap (λ s. k ∷ s) (numbers_row-same f g (suc k) r h)

  pub numbers_row-same : {X A : Type 0} (f g : X → Tree A) (k : ℕ) (r : Row X) → AllRow r (λ i. f i ≡ g i) → numbers_row f k r ≡ numbers_row g k r
  numbers_row-same f g k none h = refl
  numbers_row-same f g k (more t r) h =
      ap₂ (λ s z. s ++ z) (numbers-same f g k t h.0) (ap (λ y. numbers_row f (k + vertices y) r) (graft_ext t f g h.0) ∙ numbers_row-same f g (k + vertices (graft t g)) r h.1)

-- Two trees over the pattern d, of which the first is the second with other numbers at its leaves.
module _ (m : ℕ) (d : Tree ℕ) (valid : IsShuffle m d) (f p : ℕ → Tree ℕ) (number : ℕ → ℕ) (same : graft d f ≡ graft (graft d p) (λ i. leaf (number i))) where
  parts_same : AllLeaves d (λ i. f i ≡ graft (p i) (λ j. leaf (number j)))
  parts_same = agree_graft d f (λ i. graft (p i) (λ j. leaf (number j))) (same ∙ graft_assoc d p (λ i. leaf (number i)))

  -- the vertices of the pattern have the same numbers in both
  pub numbers_renumbered : (k : ℕ) → numbers f k d ≡ numbers p k d
  numbers_renumbered k = numbers-same f (λ i. graft (p i) (λ j. leaf (number j))) k d parts_same ∙ numbers-named p number k d

  part_same : (i : ℕ) → 0 < i → i ≤ m → f i ≡ graft (p i) (λ j. leaf (number j))
  part_same i q le = at_leaf d (λ i. f i ≡ graft (p i) (λ j. leaf (number j))) i parts_same (let e : occurs i d ≡ 1 = valid.each i q le in omega (arith, e))

  module _ (rises : PartsRise m f) where
    least_renumbered : (i : ℕ) → 0 < i → i ≤ m → least (f i) ≡ number (least (p i))
    least_renumbered i q le =
        let e = part_same i q le in
        ap least e ∙ least-named (p i) number (subst IsRising e (rises.each i q le))

    -- what a table has for the parts of the second tree rises by its numbers in the first
    pub table_rises : (table : List ℕ) → ((i : ℕ) → 0 < i → i ≤ m → slice_index table i ≡ least (p i))
        → (i j : ℕ) → 0 < i → i < j → j ≤ m → number (slice_index table i) < number (slice_index table j)
    table_rises table is i j q lt le =
        let a : number (slice_index table i) ≡ least (f i) = ap number (is i q (omega (arith, lt, le))) ∙ sym (least_renumbered i q (omega (arith, lt, le))) in
        let b : number (slice_index table j) ≡ least (f j) = ap number (is j (omega (arith, q, lt)) le) ∙ sym (least_renumbered j (omega (arith, q, lt)) le) in
        let h : least (f i) < least (f j) = rises.order i j q lt le in
        omega (arith, a, b, h)

apart_in : (number : ℕ → ℕ) (l : List ℕ) → Distinct (map number l) → (y z : ℕ) → Mem y l → Mem z l → number y ≡ number z → y ≡ z
apart_in number [] d y z p q h = absurd p
apart_in number (x ∷ l) d y z (inl e) (inl f) h = e ∙ sym f
apart_in number (x ∷ l) d y z (inl e) (inr q) h = absurd (d.0 (subst (λ u. Mem u (map number l)) (sym h ∙ ap number e) (mem_map number z l q)))
apart_in number (x ∷ l) d y z (inr p) (inl f) h = absurd (d.0 (subst (λ u. Mem u (map number l)) (h ∙ ap number f) (mem_map number y l p)))
apart_in number (x ∷ l) d y z (inr p) (inr q) h = apart_in number l d.1 y z p q h

-- Where a shuffle tree is a tree with the leaves 1 to n under other numbers, these are 1 to n in another order.
module _ (n : ℕ) (host tree : Tree ℕ) (valid : IsShuffle n host) (are : leaves tree ≡ upto n) (number : ℕ → ℕ) (is : host ≡ graft tree (λ i. leaf (number i))) where
  host_leaves : leaves host ≡ map number (upto n)
  host_leaves = ap leaves is ∙ leaves-changed tree number ∙ ap (map number) are

  pub number_in_range : (z : ℕ) → 0 < z → z ≤ n → (0 < number z) × (number z ≤ n)
  number_in_range z p le =
      let k = mem_times ℕ_discrete (number z) (leaves host) (subst (Mem (number z)) (sym host_leaves) (mem_map number z (upto n) (in_upto n z p le))) in
      valid.only (number z) (subst (λ x. 0 < x) (times-leaves (number z) host) k)

  pub number_of_each : (u : ℕ) → 0 < u → u ≤ n → (z : ℕ) × (0 < z) × (z ≤ n) × (number z ≡ u)
  number_of_each u p le =
      let e : occurs u host ≡ 1 = valid.each u p le in
      let t : count u (leaves host) ≡ occurs u host = times-leaves u host in
      let k = mem_of_map number u (upto n) (subst (Mem u) host_leaves (times_mem ℕ_discrete u (leaves host) (omega (arith, e, t)))) in
      let r = upto_mem n k.0 k.1 in
      (k.0, r.0, r.1, sym k.2)

  pub numbers_apart : (y z : ℕ) → 0 < y → y ≤ n → 0 < z → z ≤ n → number y ≡ number z → y ≡ z
  numbers_apart y z p le q ge e =
      apart_in number (upto n) (subst Distinct host_leaves (distinct_times ℕ_discrete (leaves host) (λ u. let t : count u (leaves host) ≡ occurs u host = times-leaves u host in omega (arith, t, once_of n host valid u))))
      y z (in_upto n y p le) (in_upto n z q ge) e
