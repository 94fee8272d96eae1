-- Frames and slots.
use Rattle.std.proofs.Common.{sym, ap₂, ◌≡◌, ℕ, zero, suc, ◌+◌, ◌<◌, ◌≤◌, List, [], ◌∷◌, length, refl, ◌∙◌, ap, arith, subst}
use Rattle.labelled_trees.specs.Trees.{Tree, leaf, graft, row}
use Rattle.labelled_trees.specs.Contexts.{fill}
use Rattle.labelled_trees.specs.Insertions.{IsContext, put, item, listed}
use Rattle.labelled_trees.proofs.Leaves.{by_leaf}
use Rattle.labelled_trees.proofs.ContextLeaves.{zero_once}
use Rattle.labelled_trees.proofs.Numbered.{numbered_no_zero}
use Rattle.labelled_trees.proofs.GraftLeaves.{graft_ext}
use Rattle.labelled_trees.proofs.Holes.{hole_at}
use Rattle.labelled_trees.proofs.Insertions.{put-fill, item-listed, length-listed}
use Rattle.shuffle_insertions.specs.ShuffleTrees.{least, IsRising, IsRisingRow, IsBefore, IsShuffle}
use Rattle.shuffle_insertions.specs.Slots.{Slot, fill_slot, PartsRise}
use Rattle.shuffle_insertions.proofs.LabelSums.{numbered_of_shuffle}
use Rattle.shuffle_insertions.specs.Frames.{Frame, insert, IsFrame}

-- ---- a frame as a slot

each_rises : (l : List (Tree ℕ)) → IsRisingRow (row l) → (i : ℕ) → 0 < i → i ≤ length l → IsRising (item l i)
each_rises [] h i p le = absurd (omega (arith, p, le))
each_rises (t ∷ l) h zero p le = absurd (omega arith)
each_rises (t ∷ l) h (suc zero) p le = h.0
each_rises (t ∷ l) h (suc (suc i)) p le = each_rises l h.2 (suc i) (omega arith) (omega (arith, le))

-- the first has the least leaf below those of the others
first_low : (t : Tree ℕ) (l : List (Tree ℕ)) → IsBefore t (row l) → IsRisingRow (row l) → (j : ℕ) → 0 < j → j ≤ length l → least t < least (item l j)
first_low t [] b h j p le = absurd (omega (arith, p, le))
first_low t (u ∷ l) b h zero p le = absurd (omega arith)
first_low t (u ∷ l) b h (suc zero) p le = b
first_low t (u ∷ l) b h (suc (suc j)) p le = let k = first_low u l h.1 h.2 (suc j) (omega arith) (omega (arith, le)) in omega (arith, b, k)

in_order : (l : List (Tree ℕ)) → IsRisingRow (row l) → (i j : ℕ) → 0 < i → i < j → j ≤ length l → least (item l i) < least (item l j)
in_order [] h i j p lt le = absurd (omega (arith, p, lt, le))
in_order (t ∷ l) h zero j p lt le = absurd (omega arith)
in_order (t ∷ l) h (suc i) zero p lt le = absurd (omega (arith, lt))
in_order (t ∷ l) h (suc zero) (suc zero) p lt le = absurd (omega (arith, lt))
in_order (t ∷ l) h (suc zero) (suc (suc j)) p lt le = first_low t l h.1 h.2 (suc j) (omega arith) (omega (arith, le))
in_order (t ∷ l) h (suc (suc i)) (suc zero) p lt le = absurd (omega (arith, lt))
in_order (t ∷ l) h (suc (suc i)) (suc (suc j)) p lt le = in_order l h.2 (suc i) (suc j) (omega arith) (omega (arith, lt)) (omega (arith, le))

unfoldable pub frame_of : ℕ → Slot → Frame
frame_of k s = record { hole = fill s.context (leaf 0); inputs = listed s.parts 0 k }

-- the slot of a frame
pub record SlotOf (k : ℕ) (f : Frame) : Type 0 where
  pub slot : Slot
  pub rises : PartsRise k slot.parts
  pub back : frame_of k slot ≡ f
  pub inserts : (x : Tree ℕ) → insert f x ≡ fill_slot slot x

later_items : (t : Tree ℕ) (l : List (Tree ℕ)) (a k : ℕ) → listed (item (t ∷ l)) (suc a) k ≡ listed (item l) a k
later_items t l a zero = refl
later_items t l a (suc k) = ap (λ m. item l (suc a) ∷ m) (later_items t l (suc a) k)

-- the items of a list are the list
listed-item : (l : List (Tree ℕ)) → listed (item l) 0 (length l) ≡ l
listed-item [] = refl
listed-item (t ∷ l) = ap (λ m. t ∷ m) (later_items t l 0 (length l) ∙ listed-item l)

pub slot_of : (k : ℕ) (f : Frame) → IsFrame k f → SlotOf k f
unfolding frame_of
slot_of k f h =
    let a = hole_at 0 f.hole (let o = h.context in omega (arith, o)) in
    let n = h.as_many in
    record {
      slot = record { context = a.around; parts = item f.inputs };
      rises = record {
        each = λ i p le. each_rises f.inputs h.rising i p (omega (arith, le, n));
        order = λ i j p lt le. in_order f.inputs h.rising i j p lt (omega (arith, le, n));
      };
      back = ap₂ (λ c l. record { hole = c; inputs = l }) (sym a.is) (ap (listed (item f.inputs) 0) (sym n) ∙ listed-item f.inputs);
      inserts = λ x.
          ap (λ c. put c (graft x (item f.inputs))) a.is
          ∙ put-fill a.around (graft x (item f.inputs)) (let o = subst (λ c. IsContext c) a.is h.context in omega (arith, o));
    }

-- ---- a slot as a frame

listed_rise : (k : ℕ) (s : ℕ → Tree ℕ) → PartsRise k s → (a m : ℕ) → a + m ≤ k → IsRisingRow (row (listed s a m))
listed_rise k s h a zero le = tt
listed_rise k s h a (suc zero) le = (h.each (suc a) (omega arith) (omega (arith, le)), tt, tt)
listed_rise k s h a (suc (suc m)) le = (
  h.each (suc a) (omega arith) (omega (arith, le)),
  h.order (suc a) (suc (suc a)) (omega arith) (omega arith) (omega (arith, le)),
  listed_rise k s h (suc a) (suc m) (omega (arith, le)),
)

module _ (k n : ℕ) (s : Slot) (rises : PartsRise k s.parts) (x : Tree ℕ) (hx : IsShuffle k x) (valid : IsShuffle n (fill_slot s x)) where
  pub frame_of-is_frame : IsFrame k (frame_of k s)
  unfolding frame_of
  frame_of-is_frame = record {
    context = (zero_once s.context (graft x s.parts) (numbered_no_zero (numbered_of_shuffle valid))).0;
    as_many = length-listed s.parts 0 k;
    rising = listed_rise k s.parts rises 0 k (omega arith);
  }

  -- insertion into the frame fills the slot
  pub insert-frame_of : (y : Tree ℕ) → IsShuffle k y → insert (frame_of k s) y ≡ fill_slot s y
  unfolding frame_of
  insert-frame_of y h =
      put-fill s.context (graft y (item (listed s.parts 0 k))) (let o = (zero_once s.context (graft x s.parts) (numbered_no_zero (numbered_of_shuffle valid))).0 in omega (arith, o))
      ∙ ap (fill s.context) (graft_ext y (item (listed s.parts 0 k)) s.parts
      (by_leaf y (λ i. item (listed s.parts 0 k) i ≡ s.parts i) (λ i o. let r = h.only i o in item-listed s.parts k i r.0 r.1)))
