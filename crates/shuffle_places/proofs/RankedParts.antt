-- A pattern whose hanging parts are ranked by their least leaves.
use Rattle.std.proofs.Common.{◌≡◌, ℕ, suc, ◌<◌, ◌≤◌, sym, ◌∙◌, ap, arith, subst}
use native.Mathlib.Decide.{dec_lt}
use Rattle.labelled_trees.specs.Trees.{Tree, leaf, graft, join}
use Rattle.labelled_trees.specs.Leaves.{AllLeaves, occurs}
use Rattle.labelled_trees.specs.Ranks.{below}
use Rattle.labelled_trees.proofs.Grafts.{graft_assoc, graft_leaf}
use Rattle.labelled_trees.proofs.Leaves.{by_leaf, at_leaf, AllLeaves-imp}
use Rattle.labelled_trees.proofs.GraftLeaves.{agree, AllLeaves-graft, AllLeaves_of_graft}
use Rattle.labelled_trees.proofs.Factors.{factor}
use Rattle.labelled_trees.proofs.Ranks.{below-mono, below-lt, below_bound, standard_each, standard_only}
use Rattle.shuffle_insertions.specs.ShuffleTrees.{least, IsRising, IsShuffle}
use Rattle.shuffle_insertions.specs.Slots.{PartsRise}
use Rattle.shuffle_insertions.proofs.Insertions.{InRange}
use Rattle.shuffle_insertions.proofs.LabelSums.{once_of}
use Rattle.shuffle_insertions.proofs.Rising.{rising_change}
use Rattle.shuffle_insertions.proofs.Named.{parts_rise, occurs-named}
use Rattle.shuffle_places.specs.Places.{divisor_of}

-- the pattern with the least leaf of each part at its leaves
abbrev pub keys : Tree (Tree ℕ) → Tree ℕ
keys p = graft p (λ v. leaf (least v))

-- the rank of a part among the parts
abbrev pub rank : Tree (Tree ℕ) → Tree ℕ → ℕ
rank p v = suc (below (least v) (keys p))

-- the least leaf of v is that of a part
abbrev pub IsKey : Tree (Tree ℕ) → Tree ℕ → Type 0
IsKey p v = 0 < occurs (least v) (keys p)

pub rank_order : (p : Tree (Tree ℕ)) (v w : Tree ℕ) → IsKey p v → IsKey p w → least v < least w → rank p v < rank p w
rank_order p v w kv kw lt = let h : below (least v) (keys p) < below (least w) (keys p) = below-lt (least v) (least w) (keys p) kv lt in omega arith

pub all_keys : (p : Tree (Tree ℕ)) → AllLeaves p (IsKey p)
all_keys p = AllLeaves_of_graft p (λ v. leaf (least v)) (λ i. 0 < occurs i (keys p)) (by_leaf (keys p) (λ i. 0 < occurs i (keys p)) (λ i o. o))

pub divisor_is : (p : Tree (Tree ℕ)) → divisor_of p ≡ graft p (λ v. leaf (rank p v))
divisor_is p = graft_assoc p (λ v. leaf (least v)) (λ i. leaf (suc (below i (keys p))))

-- the parts by their ranks
pub record Ranked (n : ℕ) (p : Tree (Tree ℕ)) : Type 0 where
  pub size : ℕ
  pub size_le : size ≤ n
  pub valid : IsShuffle size (divisor_of p)
  pub hung : ℕ → Tree ℕ
  pub pattern_is : p ≡ graft (divisor_of p) (λ i. leaf (hung i))
  pub whole : graft (divisor_of p) hung ≡ join p
  pub rises : PartsRise size hung
  pub of_rank : AllLeaves p (λ v. hung (rank p v) ≡ v)

module _ (n : ℕ) (p : Tree (Tree ℕ)) (rise : IsRising (join p)) (once : (i : ℕ) → occurs i (join p) ≤ 1) (labels : (i : ℕ) → 0 < occurs i (join p) → InRange n i) where
  key_le : (i : ℕ) → occurs i (keys p) ≤ occurs i (join p)
  key_le i = occurs-named (λ v. v) p i rise

  once_keys : (i : ℕ) → occurs i (keys p) ≤ 1
  once_keys i = omega (arith, key_le i, once i)

  keys_low : AllLeaves (keys p) (λ x. x < suc n)
  keys_low = by_leaf (keys p) (λ x. x < suc n) (λ x o. let r = labels x (omega (arith, key_le x, o)) in omega (arith, r.1))

  size : ℕ
  size = below (suc n) (keys p)

  valid : IsShuffle size (divisor_of p)
  unfolding size
  valid = record {
    rising = subst IsRising (sym (divisor_is p)) (rising_change (Tree ℕ) (IsKey p) (λ v. v) (λ v. leaf (rank p v)) (λ v k. tt) (rank_order p) p rise (all_keys p));
    each = standard_each (suc n) (keys p) keys_low once_keys;
    only = standard_only (suc n) (keys p) keys_low once_keys;
  }

  no_zero : occurs 0 (keys p) ≡ 0
  no_zero = go (dec_lt 0 (occurs 0 (keys p)))
    where
      go : Dec (0 < occurs 0 (keys p)) → occurs 0 (keys p) ≡ 0
      go (yes o) = let r = labels 0 (omega (arith, key_le 0, o)) in absurd (omega (arith, r.0))
      go (no z) = omega arith

  found : (f : ℕ → Tree ℕ) × (p ≡ graft (divisor_of p) (λ i. leaf (f i)))
  found = factor (divisor_of p) p (rank p) (λ i. i) (leaf 0) (once_of size (divisor_of p) valid) (sym (divisor_is p) ∙ sym (graft_leaf (divisor_of p)))

  hung : ℕ → Tree ℕ
  hung = found.0

  rank_of_hung : AllLeaves (divisor_of p) (λ i. rank p (hung i) ≡ i)
  unfolding hung
  rank_of_hung = agree (divisor_of p) (λ i. rank p (found.0 i)) (λ i. i)
      (sym (graft_assoc (divisor_of p) (λ i. leaf (found.0 i)) (λ v. leaf (rank p v))) ∙ ap (λ x. graft x (λ v. leaf (rank p v))) (sym found.1) ∙ sym (divisor_is p) ∙ sym (graft_leaf (divisor_of p)))

  hung_of_rank : AllLeaves p (λ v. hung (rank p v) ≡ v)
  unfolding hung
  hung_of_rank = subst (λ x. AllLeaves x (λ v. hung (rank p v) ≡ v)) (sym found.1)
      (AllLeaves-graft (divisor_of p) (λ i. leaf (found.0 i)) (λ v. hung (rank p v) ≡ v)
      (AllLeaves-imp (divisor_of p) (λ i. rank p (hung i) ≡ i) (λ i. hung (rank p (hung i)) ≡ hung i) (λ i e. ap hung e) rank_of_hung))

  hung_whole : graft (divisor_of p) hung ≡ join p
  unfolding hung
  hung_whole = sym (graft_assoc (divisor_of p) (λ i. leaf (found.0 i)) (λ v. v)) ∙ ap join (sym found.1)

  stands : (i : ℕ) → 0 < i → i ≤ size → 0 < occurs i (divisor_of p)
  stands i q le = let e : occurs i (divisor_of p) ≡ 1 = valid.each i q le in omega arith

  lower : (i j : ℕ) → rank p (hung i) ≡ i → rank p (hung j) ≡ j → i < j → Dec (least (hung i) < least (hung j)) → least (hung i) < least (hung j)
  lower i j ei ej lt (yes h) = h
  lower i j ei ej lt (no h) =
      let k : below (least (hung j)) (keys p) ≤ below (least (hung i)) (keys p) = below-mono (least (hung j)) (least (hung i)) (keys p) (omega (arith, h)) in
      absurd (omega (arith, k, ei, ej))

  hung_rises : PartsRise size hung
  hung_rises = record {
    each = λ i q le. at_leaf (divisor_of p) (λ j. IsRising (hung j)) i (parts_rise (divisor_of p) hung (subst IsRising (sym hung_whole) rise)) (stands i q le);
    order = λ i j q lt le. lower i j (at_leaf (divisor_of p) (λ k. rank p (hung k) ≡ k) i rank_of_hung (stands i q (omega arith)))
        (at_leaf (divisor_of p) (λ k. rank p (hung k) ≡ k) j rank_of_hung (stands j (omega arith) le)) lt (dec_lt (least (hung i)) (least (hung j)));
  }

  pub ranked : Ranked n p
  unfolding size hung
  ranked = record {
    size = size;
    size_le = below_bound n (keys p) once_keys no_zero;
    valid = valid;
    hung = hung;
    pattern_is = found.1;
    whole = hung_whole;
    rises = hung_rises;
    of_rank = hung_of_rank;
  }
