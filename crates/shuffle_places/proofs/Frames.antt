-- Slots and places: the place of a slot, the slot at a place, and the frame of both.
use Rattle.std.proofs.Common.{[], map, inl, inr, ◌⊎◌, ◌≡◌, ℕ, zero, suc, ◌+◌, ◌<◌, ◌≤◌, List, ◌∷◌, refl, sym, ◌∙◌, ap, arith, subst}
use mathlib.Core.List.{◌++◌}
use mathlib.Core.Path.{ap₂}
use native.Mathlib.Decide.{ℕ_discrete, dec_lt}
use Rattle.labelled_trees.specs.Trees.{Tree, Row, leaf, node, none, more, graft, graft_row, join, IsNode, vertices}
use Rattle.labelled_trees.specs.Contexts.{fill}
use Rattle.shuffle_insertions.specs.ShuffleTrees.{least, IsRising, IsShuffle}
use Rattle.labelled_trees.specs.Leaves.{one_if, occurs}
use Rattle.shuffle_insertions.specs.Slots.{Slot, fill_slot, PartsRise}
use Rattle.labelled_trees.specs.Ranks.{below, standard}
use Rattle.labelled_trees.specs.Trees.{leaves}
use Rattle.labelled_trees.specs.Insertions.{listed}
use Rattle.labelled_trees.proofs.GraftLeaves.{leaves-changed}
use Rattle.labelled_trees.proofs.Insertions.{listed_ext}
use Rattle.labelled_trees.proofs.Permutations.{times-leaves}
use Rattle.modular_sums.specs.Lists.{Mem, choose}
use Rattle.shuffle_insertions.proofs.Counted.{times_mem, mem_times}
use Rattle.shuffle_insertions.proofs.TreeOrders.{length_leaves, leaves_count}
use Rattle.shuffle_insertions.proofs.Frames.{frame_of}
use Rattle.shuffle_places.specs.Places.{divisor_of, of_rank, pattern_inputs, frame_at}
use Rattle.shuffle_places.proofs.RankedParts.{Ranked, ranked}
use Rattle.shuffle_places.proofs.Places.{of_pattern}
use Rattle.shuffle_places.specs.Cuts.{numbers, numbers_row, start, IsCut}
use Rattle.labelled_trees.proofs.Grafts.{graft_assoc, graft_leaf}
use Rattle.labelled_trees.proofs.GraftLeaves.{graft_ext, sum_leaves-graft}
use Rattle.labelled_trees.proofs.Leaves.{sum_leaves-same, AllLeaves-imp}
use Rattle.labelled_trees.proofs.ContextLeaves.{sum_of_fill}
use Rattle.shuffle_insertions.proofs.Rising.{rising_of_fill}
use Rattle.shuffle_insertions.proofs.Insertions.{InRange, all_among, parts_in_order, order_back}
use Rattle.shuffle_insertions.proofs.LabelSums.{numbered_of_shuffle, once_of}
use Rattle.labelled_trees.proofs.Numbered.{below_numbered}
use Rattle.labelled_trees.proofs.Ranks.{same_if, below_sum}

mutual
  pub numbers-graft : {X Y A : Type 0} (p : Tree X) (f : X → Y) (s : Y → Tree A) (k : ℕ) → numbers s k (graft p (λ x. leaf (f x))) ≡ numbers (λ x. s (f x)) k p
  numbers-graft (leaf x) f s k = refl
  numbers-graft (node l r) f s k = ap (λ m. k ∷ m) (numbers_row-graft r f s (suc k))

  pub numbers_row-graft : {X Y A : Type 0} (r : Row X) (f : X → Y) (s : Y → Tree A) (k : ℕ) → numbers_row s k (graft_row r (λ x. leaf (f x))) ≡ numbers_row (λ x. s (f x)) k r
  numbers_row-graft none f s k = refl
  numbers_row-graft (more t r) f s k =
      ap₂ (λ m n. m ++ n) (numbers-graft t f s k)
      (ap (λ x. numbers_row s (k + vertices x) (graft_row r (λ x. leaf (f x)))) (graft_assoc t (λ x. leaf (f x)) s) ∙ numbers_row-graft r f s (k + vertices (graft t (λ x. s (f x)))))

still_node : (d : Tree ℕ) (s : ℕ → Tree ℕ) → IsNode d → IsNode (graft d (λ i. leaf (s i)))
still_node (leaf a) s n = absurd n
still_node (node l r) s n = tt

-- the place of an insertion
module _ (m : ℕ) (f : Slot) (d : Tree ℕ) (hd : IsShuffle m d) (rise : PartsRise m f.parts) where
  down : (i j : ℕ) → InRange m i → InRange m j → least (f.parts i) < least (f.parts j) → i < j
  down = order_back (InRange m) (λ k. least (f.parts k)) (parts_in_order m f.parts rise)

  rank_back : (i : ℕ) → InRange m i → suc (below (least (f.parts i)) (graft d (λ j. leaf (least (f.parts j))))) ≡ i
  rank_back zero a = absurd (omega (arith, a.0))
  rank_back (suc i) a =
      ap suc (below_sum (least (f.parts (suc i))) (graft d (λ j. leaf (least (f.parts j))))
      ∙ sum_leaves-graft d (λ j. leaf (least (f.parts j))) (λ x. one_if (dec_lt x (least (f.parts (suc i)))))
      ∙ sum_leaves-same d (λ j. one_if (dec_lt (least (f.parts j)) (least (f.parts (suc i))))) (λ j. one_if (dec_lt j (suc i)))
      (AllLeaves-imp d (InRange m) (λ j. one_if (dec_lt (least (f.parts j)) (least (f.parts (suc i)))) ≡ one_if (dec_lt j (suc i)))
      (λ j b. same_if (dec_lt (least (f.parts j)) (least (f.parts (suc i)))) (dec_lt j (suc i)) (down j (suc i) b a) (parts_in_order m f.parts rise j (suc i) b a)) (all_among m d hd))
      ∙ sym (below_sum (suc i) d) ∙ below_numbered (numbered_of_shuffle hd) i (omega (arith, a.1)))

  pub cut_of_slot : IsNode d → IsCut (fill_slot f d) (numbers f.parts (start 1 f.context) d) d
  cut_of_slot n = record {
    context = f.context;
    pattern_at = graft d (λ i. leaf (f.parts i));
    is_node = still_node d f.parts n;
    host_is = ap (fill f.context) (sym (graft_assoc d (λ i. leaf (f.parts i)) (λ v. v)));
    set_is = sym (numbers-graft d f.parts (λ v. v) (start 1 f.context));
    divisor_is =
        sym (ap standard (graft_assoc d (λ i. leaf (f.parts i)) (λ v. leaf (least v)))
        ∙ graft_assoc d (λ i. leaf (least (f.parts i))) (λ x. leaf (suc (below x (graft d (λ j. leaf (least (f.parts j)))))))
        ∙ graft_ext d (λ i. leaf (suc (below (least (f.parts i)) (graft d (λ j. leaf (least (f.parts j))))))) leaf
        (AllLeaves-imp d (InRange m) (λ i. leaf (suc (below (least (f.parts i)) (graft d (λ j. leaf (least (f.parts j)))))) ≡ leaf i) (λ i a. ap leaf (rank_back i a)) (all_among m d hd))
        ∙ graft_leaf d);
  }

  -- the rank of each part among the parts
  find : (l : List ℕ) (i : ℕ) → ((j : ℕ) → Mem j l → InRange m j) → Mem i l → of_rank (graft d (λ j. leaf (least (f.parts j)))) (map f.parts l) i ≡ f.parts i
  find [] i h mem = absurd mem
  find (j ∷ l) i h mem = go (ℕ_discrete (suc (below (least (f.parts j)) (graft d (λ j. leaf (least (f.parts j)))))) i) (λ g q. find l i g q) mem
    where
      go : (e : Dec (suc (below (least (f.parts j)) (graft d (λ j. leaf (least (f.parts j))))) ≡ i)) → (((k : ℕ) → Mem k l → InRange m k) → Mem i l → of_rank (graft d (λ j. leaf (least (f.parts j)))) (map f.parts l) i ≡ f.parts i) → (i ≡ j) ⊎ Mem i l
          → choose e (f.parts j) (of_rank (graft d (λ j. leaf (least (f.parts j)))) (map f.parts l) i) ≡ f.parts i
      go (yes e) ih q = ap f.parts (sym (rank_back j (h j (inl refl))) ∙ e)
      go (no n) ih (inl e) = absurd (n (rank_back j (h j (inl refl)) ∙ sym e))
      go (no n) ih (inr q) = ih (λ k r. h k (inr r)) q

  in_leaves : (i : ℕ) → InRange m i → Mem i (leaves d)
  in_leaves i a = times_mem ℕ_discrete i (leaves d) (let e = hd.each i a.0 a.1 in let k = times-leaves i d in omega (arith, e, k))

  of_leaves : (j : ℕ) → Mem j (leaves d) → InRange m j
  of_leaves j h = hd.only j (let k = mem_times ℕ_discrete j (leaves d) h in let e = times-leaves j d in omega (arith, k, e))

  -- the inputs at the place of a slot
  inputs_are : pattern_inputs (graft d (λ i. leaf (f.parts i))) ≡ listed f.parts 0 m
  inputs_are =
      ap (λ c. listed (of_rank (graft (graft d (λ i. leaf (f.parts i))) (λ v. leaf (least v))) (leaves (graft d (λ i. leaf (f.parts i))))) 0 c)
      (sum_leaves-graft d (λ i. leaf (f.parts i)) (λ v. 1) ∙ sym (length_leaves d) ∙ leaves_count m d hd)
      ∙ ap₂ (λ q l. listed (of_rank q l) 0 m) (graft_assoc d (λ i. leaf (f.parts i)) (λ v. leaf (least v))) (leaves-changed d f.parts)
      ∙ listed_ext (of_rank (graft d (λ j. leaf (least (f.parts j)))) (map f.parts (leaves d))) f.parts 0 m
      (λ i a b. let r : InRange m i = (a, omega (arith, b)) in find (leaves d) i of_leaves (in_leaves i r))

  -- the frame at the place of a slot is the slot's
  pub frame_at-slot : IsNode d → frame_at (numbers f.parts (start 1 f.context) d) (fill_slot f d) ≡ frame_of m f
  unfolding frame_of
  frame_at-slot n =
      let c = cut_of_slot n in
      let o = of_pattern f.context (graft d (λ i. leaf (f.parts i))) (still_node d f.parts n) in
      let host : fill_slot f d ≡ fill f.context (join (graft d (λ i. leaf (f.parts i)))) = ap (fill f.context) (sym (graft_assoc d (λ i. leaf (f.parts i)) (λ v. v))) in
      let set : numbers f.parts (start 1 f.context) d ≡ numbers (λ v. v) (start 1 f.context) (graft d (λ i. leaf (f.parts i))) = sym (numbers-graft d f.parts (λ v. v) (start 1 f.context)) in
      ap₂ frame_at set host ∙ ap₂ (λ h l. record { hole = h; inputs = l }) o.1 (ap pattern_inputs o.0 ∙ inputs_are)

-- the frame at a place
pub record SlotAt (host : Tree ℕ) (set : List ℕ) (divisor : Tree ℕ) : Type 0 where
  pub arity : ℕ
  pub at : Slot
  pub valid : IsShuffle arity divisor
  pub is_node : IsNode divisor
  pub rises : PartsRise arity at.parts
  pub host_is : fill_slot at divisor ≡ host
  pub set_is : set ≡ numbers at.parts (start 1 at.context) divisor

module _ (n : ℕ) (host : Tree ℕ) (valid : IsShuffle n host) (set : List ℕ) (divisor : Tree ℕ) (place : IsCut host set divisor) where
  low : (i : ℕ) → occurs i (join place.pattern_at) ≤ occurs i host
  low i = subst (λ x. occurs i (join place.pattern_at) ≤ occurs i x) (sym place.host_is) (sum_of_fill place.context (join place.pattern_at) (λ m. one_if (ℕ_discrete m i)))

  by_rank : Ranked n place.pattern_at
  by_rank = ranked n place.pattern_at (rising_of_fill place.context (join place.pattern_at) (subst IsRising place.host_is valid.rising))
      (λ i. omega (arith, low i, once_of n host valid i)) (λ i o. valid.only i (omega (arith, low i, o)))

  pub slot_at : SlotAt host set divisor
  slot_at = subst (SlotAt host set) (sym place.divisor_is) record {
    arity = by_rank.size;
    at = record { context = place.context; parts = by_rank.hung };
    valid = by_rank.valid;
    is_node = node_again (divisor_of place.pattern_at) place.pattern_at by_rank.hung by_rank.pattern_is place.is_node;
    rises = by_rank.rises;
    host_is = ap (fill place.context) by_rank.whole ∙ sym place.host_is;
    set_is = place.set_is ∙ ap (numbers (λ v. v) (start 1 place.context)) by_rank.pattern_is ∙ numbers-graft (divisor_of place.pattern_at) by_rank.hung (λ v. v) (start 1 place.context);
  }
    where
      node_again : (d : Tree ℕ) (q : Tree (Tree ℕ)) (f : ℕ → Tree ℕ) → q ≡ graft d (λ i. leaf (f i)) → IsNode q → IsNode d
      node_again (leaf a) q f e n = absurd (subst IsNode e n)
      node_again (node l r) q f e n = tt
