-- Two places that share a vertex: their union, standardised, is a common multiple.
use Rattle.std.proofs.Common.{◌≡◌, ℕ, ◌<◌, ◌≤◌, sym, ◌∙◌, ap, arith, subst}
use mathlib.Core.Path.{ap₂}
use native.Mathlib.Decide.{ℕ_discrete}
use Rattle.labelled_trees.specs.Trees.{Tree, leaf, graft, join, IsLeaf}
use Rattle.labelled_trees.specs.Contexts.{Ctx, fill, graft_ctx}
use Rattle.labelled_trees.specs.Unions.{union, over_first}
use Rattle.shuffle_insertions.specs.ShuffleTrees.{least, IsRising, IsShuffle}
use Rattle.labelled_trees.specs.Leaves.{AllLeaves, one_if, occurs}
use Rattle.shuffle_insertions.specs.Slots.{PartsRise}
use Rattle.labelled_trees.proofs.Grafts.{graft_assoc}
use Rattle.labelled_trees.proofs.Contexts.{graft-fill}
use Rattle.labelled_trees.proofs.Unions.{join-over_first, parts-over_first, union_comm, union-over_first}
use Rattle.labelled_trees.proofs.GraftLeaves.{graft_ext, AllLeaves-graft, AllLeaves_of_graft}
use Rattle.labelled_trees.proofs.Factors.{refine, Refined}
use Rattle.labelled_trees.proofs.Leaves.{AllLeaves-each, by_leaf, at_leaf, AllLeaves-imp, AllLeaves-and}
use Rattle.labelled_trees.proofs.ContextLeaves.{all_of_fill, sum_of_fill}
use Rattle.shuffle_insertions.proofs.Rising.{head, rising_change}
use Rattle.shuffle_places.proofs.Independent.{Laid}
use Rattle.shuffle_places.specs.Places.{divisor_of}
use Rattle.shuffle_places.proofs.RankedParts.{rank, IsKey, rank_order, all_keys, divisor_is, Ranked, ranked}
use Rattle.shuffle_insertions.proofs.Insertions.{InRange}
use Rattle.shuffle_insertions.proofs.LabelSums.{once_of}

-- the standardised union, and the parts of both places in it
pub record Common (n : ℕ) (one other : Laid) (part : Tree ℕ) : Type 0 where
  pub size : ℕ
  pub size_le : size ≤ n
  pub first : ℕ → Tree ℕ
  pub second : ℕ → Tree ℕ
  pub hung : ℕ → Tree ℕ
  pub first_rise : PartsRise one.size first
  pub second_rise : PartsRise other.size second
  pub hung_rise : PartsRise size hung
  pub valid : IsShuffle size (graft one.tree first)
  pub meets : graft part first ≡ graft other.tree second
  pub first_hung : (k : ℕ) → InRange one.size k → graft (first k) hung ≡ one.at.parts k
  pub second_hung : (k : ℕ) → InRange other.size k → graft (second k) hung ≡ other.at.parts k
  pub whole : graft (graft one.tree first) hung ≡ graft one.tree one.at.parts
  pub covers : AllLeaves (union (graft part (λ i. leaf (first i))) (graft other.tree (λ i. leaf (second i)))) IsLeaf
  -- a part at a leaf that lies beside the second place is a leaf
  pub bare : (i : ℕ) → occurs i part ≡ 0 → IsLeaf (first i)

module _ (n : ℕ) (one other : Laid) (front : Ctx ℕ) (part : Tree ℕ) (lead_is : one.tree ≡ fill front part) (meet : graft part one.at.parts ≡ graft other.tree other.at.parts)
    (rise : IsRising (graft one.tree one.at.parts)) (once : (i : ℕ) → occurs i (graft one.tree one.at.parts) ≤ 1) (labels : (i : ℕ) → 0 < occurs i (graft one.tree one.at.parts) → InRange n i) where
  first_pattern : Tree (Tree ℕ)
  first_pattern = graft part (λ i. leaf (one.at.parts i))

  second_pattern : Tree (Tree ℕ)
  second_pattern = graft other.tree (λ i. leaf (other.at.parts i))

  one_tree : join first_pattern ≡ join second_pattern
  unfolding first_pattern second_pattern
  one_tree = graft_assoc part (λ i. leaf (one.at.parts i)) (λ v. v) ∙ meet ∙ sym (graft_assoc other.tree (λ i. leaf (other.at.parts i)) (λ v. v))

  once_part : (i : ℕ) → occurs i part ≤ 1
  once_part i =
      let k : occurs i part ≤ occurs i (fill front part) = sum_of_fill front part (λ m. one_if (ℕ_discrete m i)) in
      let e : occurs i (fill front part) ≡ occurs i one.tree = ap (occurs i) (sym lead_is) in
      omega (arith, once_of one.size one.tree one.valid i)

  fine_first : Refined part one.at.parts (over_first first_pattern second_pattern)
  unfolding first_pattern
  fine_first = refine part one.at.parts (over_first first_pattern second_pattern) once_part
      (parts-over_first (λ v. v) first_pattern second_pattern one_tree ∙ graft_assoc part (λ i. leaf (one.at.parts i)) leaf)

  fine_second : Refined other.tree other.at.parts (over_first second_pattern first_pattern)
  unfolding second_pattern
  fine_second = refine other.tree other.at.parts (over_first second_pattern first_pattern) (once_of other.size other.tree other.valid)
      (parts-over_first (λ v. v) second_pattern first_pattern (sym one_tree) ∙ graft_assoc other.tree (λ i. leaf (other.at.parts i)) leaf)

  -- the union below the second place's top, as seen from each side
  sides : graft part fine_first.by ≡ graft other.tree fine_second.by
  sides =
      sym (graft_assoc part (λ i. leaf (fine_first.by i)) (λ v. v)) ∙ ap join (sym fine_first.is)
      ∙ join-over_first (λ v. v) first_pattern second_pattern one_tree
      ∙ union_comm (λ v. v) (λ x y e. e) first_pattern second_pattern one_tree
      ∙ sym (join-over_first (λ v. v) second_pattern first_pattern (sym one_tree))
      ∙ ap join fine_second.is ∙ graft_assoc other.tree (λ i. leaf (fine_second.by i)) (λ v. v)

  -- the whole union with its hanging parts
  all_parts : Tree (Tree ℕ)
  all_parts = graft one.tree fine_first.by

  joined : join all_parts ≡ graft one.tree one.at.parts
  unfolding all_parts
  joined = graft_assoc one.tree fine_first.by (λ v. v) ∙ graft_ext one.tree (λ i. join (fine_first.by i)) one.at.parts (by_leaf one.tree (λ i. join (fine_first.by i) ≡ one.at.parts i) (λ i o. fine_first.joins i))

  by_rank : Ranked n all_parts
  by_rank = ranked n all_parts (subst IsRising (sym joined) rise) (λ i. subst (λ x. occurs i x ≤ 1) (sym joined) (once i))
      (λ i o. labels i (subst (λ x. 0 < occurs i x) joined o))

  -- the parts of a place in the multiple, from a finer pattern below each leaf
  module _ (k : ℕ) (x : Tree ℕ) (u : ℕ → Tree ℕ) (hx : IsShuffle k x) (ru : PartsRise k u) (fine : ℕ → Tree (Tree ℕ)) (joins : (i : ℕ) → join (fine i) ≡ u i)
      (those : AllLeaves (graft x fine) (λ v. IsKey all_parts v × (by_rank.hung (rank all_parts v) ≡ v))) where
    shares : (i : ℕ) → InRange k i → AllLeaves (fine i) (λ v. IsKey all_parts v × (by_rank.hung (rank all_parts v) ≡ v))
    shares i m = at_leaf x (λ j. AllLeaves (fine j) (λ v. IsKey all_parts v × (by_rank.hung (rank all_parts v) ≡ v))) i
        (AllLeaves_of_graft x fine (λ v. IsKey all_parts v × (by_rank.hung (rank all_parts v) ≡ v)) those) (let e : occurs i x ≡ 1 = hx.each i m.0 m.1 in omega arith)

    keys_of : (i : ℕ) → InRange k i → AllLeaves (fine i) (IsKey all_parts)
    keys_of i m = AllLeaves-imp (fine i) (λ v. IsKey all_parts v × (by_rank.hung (rank all_parts v) ≡ v)) (IsKey all_parts) (λ v h. h.0) (shares i m)

    placed : ℕ → Tree ℕ
    placed i = graft (fine i) (λ v. leaf (rank all_parts v))

    rise_of : (i : ℕ) → InRange k i → IsRising (join (fine i))
    rise_of i m = subst IsRising (sym (joins i)) (ru.each i m.0 m.1)

    placed_rises : PartsRise k placed
    unfolding placed
    placed_rises = record {
      each = λ i p le. rising_change (Tree ℕ) (IsKey all_parts) (λ v. v) (λ v. leaf (rank all_parts v)) (λ v h. tt) (rank_order all_parts) (fine i) (rise_of i (p, le)) (keys_of i (p, le));
      order = λ i j p lt le. ordered i j (p, omega arith) (omega arith, le) (ru.order i j p lt le);
    }
      where
        ordered : (i j : ℕ) → InRange k i → InRange k j → least (u i) < least (u j) → least (graft (fine i) (λ v. leaf (rank all_parts v))) < least (graft (fine j) (λ v. leaf (rank all_parts v)))
        ordered i j mi mj lt =
            let p = head (Tree ℕ) (IsKey all_parts) (λ v. v) (λ v. leaf (rank all_parts v)) (λ v h. tt) (rank_order all_parts) (fine i) (rise_of i mi) (keys_of i mi) in
            let q = head (Tree ℕ) (IsKey all_parts) (λ v. v) (λ v. leaf (rank all_parts v)) (λ v h. tt) (rank_order all_parts) (fine j) (rise_of j mj) (keys_of j mj) in
            let ep : least (u i) ≡ least p.0 = ap least (sym (joins i)) ∙ p.2 in
            let eq : least (u j) ≡ least q.0 = ap least (sym (joins j)) ∙ q.2 in
            let l : least p.0 < least q.0 = omega (arith, ep, eq) in
            rw (p.3, q.3) (rank_order all_parts p.0 q.0 p.1 q.1 l)

    placed_hung : (i : ℕ) → InRange k i → graft (placed i) by_rank.hung ≡ u i
    unfolding placed
    placed_hung i m =
        graft_assoc (fine i) (λ v. leaf (rank all_parts v)) by_rank.hung
        ∙ graft_ext (fine i) (λ v. by_rank.hung (rank all_parts v)) (λ v. v) (AllLeaves-imp (fine i) (λ v. IsKey all_parts v × (by_rank.hung (rank all_parts v) ≡ v)) (λ v. by_rank.hung (rank all_parts v) ≡ v) (λ v h. h.1) (shares i m))
        ∙ joins i

  those_first : AllLeaves (graft one.tree fine_first.by) (λ v. IsKey all_parts v × (by_rank.hung (rank all_parts v) ≡ v))
  unfolding all_parts
  those_first = AllLeaves-and all_parts (IsKey all_parts) (λ v. by_rank.hung (rank all_parts v) ≡ v) (all_keys all_parts) by_rank.of_rank

  those_second : AllLeaves (graft other.tree fine_second.by) (λ v. IsKey all_parts v × (by_rank.hung (rank all_parts v) ≡ v))
  those_second = subst (λ x. AllLeaves x (λ v. IsKey all_parts v × (by_rank.hung (rank all_parts v) ≡ v))) sides
      (all_of_fill (graft_ctx front fine_first.by) (graft part fine_first.by) (λ v. IsKey all_parts v × (by_rank.hung (rank all_parts v) ≡ v))
      (subst (λ x. AllLeaves x (λ v. IsKey all_parts v × (by_rank.hung (rank all_parts v) ≡ v))) (ap (λ x. graft x fine_first.by) lead_is ∙ graft-fill front part fine_first.by) those_first))

  first_is : graft one.tree (λ i. graft (fine_first.by i) (λ v. leaf (rank all_parts v))) ≡ divisor_of all_parts
  unfolding all_parts
  first_is = sym (graft_assoc one.tree fine_first.by (λ v. leaf (rank all_parts v))) ∙ sym (divisor_is all_parts)

  coverings : AllLeaves (union (graft part (λ i. leaf (graft (fine_first.by i) (λ v. leaf (rank all_parts v))))) (graft other.tree (λ i. leaf (graft (fine_second.by i) (λ v. leaf (rank all_parts v)))))) IsLeaf
  coverings = subst (λ x. AllLeaves x IsLeaf) (sym
      (ap₂ union
      (sym (graft_assoc part (λ i. leaf (fine_first.by i)) (λ v. leaf (graft v (λ w. leaf (rank all_parts w))))) ∙ ap (λ x. graft x (λ v. leaf (graft v (λ w. leaf (rank all_parts w))))) (sym fine_first.is))
      (sym (graft_assoc other.tree (λ i. leaf (fine_second.by i)) (λ v. leaf (graft v (λ w. leaf (rank all_parts w))))) ∙ ap (λ x. graft x (λ v. leaf (graft v (λ w. leaf (rank all_parts w))))) (sym fine_second.is))
      ∙ union-over_first (λ v. v) (λ x y e. e) (λ w. leaf (rank all_parts w)) first_pattern second_pattern one_tree))
      (AllLeaves-graft (union first_pattern second_pattern) (λ x. leaf (leaf (rank all_parts x))) IsLeaf (AllLeaves-each (union first_pattern second_pattern) (λ x. Unit {0}) (λ x. tt)))

  pub common : Common n one other part
  unfolding placed
  common = record {
    size = by_rank.size;
    size_le = by_rank.size_le;
    first = placed one.size one.tree one.at.parts one.valid one.rises fine_first.by fine_first.joins those_first;
    second = placed other.size other.tree other.at.parts other.valid other.rises fine_second.by fine_second.joins those_second;
    hung = by_rank.hung;
    first_rise = placed_rises one.size one.tree one.at.parts one.valid one.rises fine_first.by fine_first.joins those_first;
    second_rise = placed_rises other.size other.tree other.at.parts other.valid other.rises fine_second.by fine_second.joins those_second;
    hung_rise = by_rank.rises;
    valid = subst (IsShuffle by_rank.size) (sym first_is) by_rank.valid;
    meets = sym (graft_assoc part fine_first.by (λ v. leaf (rank all_parts v))) ∙ ap (λ x. graft x (λ v. leaf (rank all_parts v))) sides ∙ graft_assoc other.tree fine_second.by (λ v. leaf (rank all_parts v));
    first_hung = placed_hung one.size one.tree one.at.parts one.valid one.rises fine_first.by fine_first.joins those_first;
    second_hung = placed_hung other.size other.tree other.at.parts other.valid other.rises fine_second.by fine_second.joins those_second;
    whole = ap (λ x. graft x by_rank.hung) first_is ∙ by_rank.whole ∙ joined;
    covers = coverings;
    bare = λ i z. subst IsLeaf (ap (λ v. graft v (λ w. leaf (rank all_parts w))) (sym (fine_first.bare i z))) tt;
  }
