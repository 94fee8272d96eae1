-- Slots in a slot.
use Rattle.std.proofs.Common.{◌≡◌, ℕ, ◌<◌, sym, ◌∙◌, ap, arith, subst}
use Rattle.labelled_trees.specs.Trees.{Tree, leaf, graft}
use Rattle.labelled_trees.specs.Contexts.{fill, compose, graft_ctx}
use Rattle.shuffle_insertions.specs.ShuffleTrees.{least, IsRising, IsShuffle}
use Rattle.labelled_trees.specs.Leaves.{AllLeaves, occurs}
use Rattle.shuffle_insertions.specs.Slots.{Slot, fill_slot, PartsRise}
use Rattle.labelled_trees.proofs.Grafts.{graft_assoc, graft_leaf}
use Rattle.labelled_trees.proofs.Contexts.{fill-compose, graft-fill}
use Rattle.labelled_trees.proofs.GraftLeaves.{AllLeaves_of_graft}
use Rattle.labelled_trees.proofs.Leaves.{at_leaf}
use Rattle.shuffle_insertions.proofs.Rising.{head, rising_change}
use Rattle.shuffle_insertions.proofs.Insertions.{InRange, all_among, parts_in_order}
use Rattle.labelled_trees.proofs.ContextLeaves.{all_of_fill}

-- frames in a frame
module _ (m n : ℕ) (outer : Slot) (rise : PartsRise m outer.parts) where
  pub into : Slot → Slot
  into f = record { context = compose outer.context (graft_ctx f.context outer.parts); parts = λ i. graft (f.parts i) outer.parts }

  pub fill_slot-into : (f : Slot) (x : Tree ℕ) → fill_slot (into f) x ≡ fill_slot outer (fill_slot f x)
  unfolding into
  fill_slot-into f x =
      fill-compose outer.context (graft_ctx f.context outer.parts) (graft x (λ i. graft (f.parts i) outer.parts))
      ∙ ap (fill outer.context) (ap (fill (graft_ctx f.context outer.parts)) (sym (graft_assoc x f.parts outer.parts)) ∙ sym (graft-fill f.context (graft x f.parts) outer.parts))

  module _ (k : ℕ) (f : Slot) (rf : PartsRise k f.parts) (x : Tree ℕ) (hx : IsShuffle k x) (hm : IsShuffle m (fill_slot f x)) where
    shares : (i : ℕ) → InRange k i → AllLeaves (f.parts i) (InRange m)
    shares i h = at_leaf x (λ j. AllLeaves (f.parts j) (InRange m)) i
        (AllLeaves_of_graft x f.parts (InRange m) (all_of_fill f.context (graft x f.parts) (InRange m) (all_among m (fill_slot f x) hm)))
        (let e : occurs i x ≡ 1 = hx.each i h.0 h.1 in omega arith)

    leaves_rise : (i : ℕ) → InRange k i → IsRising (graft (f.parts i) leaf)
    leaves_rise i h = subst IsRising (sym (graft_leaf (f.parts i))) (rf.each i h.0 h.1)

    pub into_rises : PartsRise k (into f).parts
    unfolding into
    into_rises = record {
      each = λ i p le. rising_change ℕ (InRange m) leaf outer.parts (λ j h. rise.each j h.0 h.1) (parts_in_order m outer.parts rise) (f.parts i) (leaves_rise i (p, le)) (shares i (p, le));
      order = λ i j p lt le. ordered i j (p, omega arith) (omega arith, le) (rf.order i j p lt le);
    }
      where
        ordered : (i j : ℕ) → InRange k i → InRange k j → least (f.parts i) < least (f.parts j) → least (graft (f.parts i) outer.parts) < least (graft (f.parts j) outer.parts)
        ordered i j hi hj lt =
            let p = head ℕ (InRange m) leaf outer.parts (λ j h. rise.each j h.0 h.1) (parts_in_order m outer.parts rise) (f.parts i) (leaves_rise i hi) (shares i hi) in
            let r = head ℕ (InRange m) leaf outer.parts (λ j h. rise.each j h.0 h.1) (parts_in_order m outer.parts rise) (f.parts j) (leaves_rise j hj) (shares j hj) in
            let ep : least (f.parts i) ≡ p.0 = ap least (sym (graft_leaf (f.parts i))) ∙ p.2 in
            let er : least (f.parts j) ≡ r.0 = ap least (sym (graft_leaf (f.parts j))) ∙ r.2 in
            let l : p.0 < r.0 = omega (arith, ep, er) in
            rw (p.3, r.3) (parts_in_order m outer.parts rise p.0 r.0 p.1 r.1 l)
