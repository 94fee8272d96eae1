-- Insertions by slots: a form that serves the proofs.
use Rattle.std.proofs.Common.{◌≡◌, ℕ, ◌≤◌, List, refl, sym, ◌∙◌, ap, subst}
use Rattle.modular_sums.specs.Lists.{Mem}
use Rattle.modular_sums.specs.Sums.{Same, scale, expand, moved, AllTerms}
use Rattle.modular_sums.proofs.Images.{AllTerms-imp, moved_eq}
use mathlib.Core.List.{◌++◌}
use Rattle.labelled_trees.specs.Trees.{Tree, leaf, graft, IsNode, IsLeaf}
use Rattle.labelled_trees.specs.Contexts.{Ctx, hole, fill, graft_ctx}
use Rattle.labelled_trees.specs.Leaves.{AllLeaves, occurs}
use Rattle.labelled_trees.specs.Labelled.{Fits}
use Rattle.labelled_trees.specs.Unions.{union}
use Rattle.labelled_trees.specs.Equality.{tree_discrete}
use Rattle.shuffle_insertions.specs.ShuffleTrees.{IsShuffle, IsShuffleTree}
use Rattle.shuffle_insertions.specs.Frames.{insert}
use Rattle.shuffle_insertions.specs.Slots.{Slot, fill_slot, PartsRise}
use Rattle.shuffle_insertions.specs.Orders.{IsTreeOrder}
use Rattle.shuffle_insertions.proofs.Insertions.{fill_slot-valid}
use Rattle.shuffle_insertions.proofs.Frames.{frame_of, frame_of-is_frame, insert-frame_of}
use Rattle.shuffle_places.specs.Cuts.{numbers, start}
use Rattle.shuffle_places.specs.Places.{frame_at}
use Rattle.shuffle_places.proofs.Places.{place_of_cut, cut_of_place}
use Rattle.shuffle_places.proofs.Frames.{SlotAt, slot_at, cut_of_slot, frame_at-slot}
use Rattle.shuffle_places.proofs.Independent.{Laid}
use Rattle.shuffle_places.proofs.Sizes.{one_size}
use Rattle.shuffle_bases.specs.Elements.{Element, terms, Setting, IsLess, AreMonic, Insertion, value_of, inserted}
use Rattle.modular_sums.proofs.Sums.{Same-expand_scale, Same-turned, AllTerms-scale}

-- an element of the list in a slot, where its leading tree gives a shuffle tree of arity n over the labels
pub record Placed (s : Setting) (n : ℕ) : Type 0 where
  pub of : Element
  pub member : Mem of s.elements
  pub at : Slot
  pub rises : PartsRise of.arity at.parts
  pub valid : IsShuffle n (fill_slot at of.lead)
  pub fits : Fits s.arity (fill_slot at of.lead)

abbrev pub host : {s : Setting} {n : ℕ} → Placed s n → Tree ℕ
host i = fill_slot i.at i.of.lead

abbrev pub value : {s : Setting} {n : ℕ} → Placed s n → List (ℕ × Tree ℕ)
value i = moved (fill_slot i.at) (terms i.of)

-- the vertices of the host at which the element stands
abbrev pub set_of : {s : Setting} {n : ℕ} → Placed s n → List ℕ
set_of i = numbers i.at.parts (start 1 i.at.context) i.of.lead

abbrev pub HostsLess : (s : Setting) (n : ℕ) → Tree ℕ → List (ℕ × Placed s n) → Type 0
HostsLess s n w l = AllTerms l (λ i. IsLess s (host i) w)

-- the difference of two insertions in one host is a sum of insertions in smaller hosts
pub record Meets (s : Setting) (n : ℕ) (i j : Placed s n) : Type 0 where
  pub uses : List (ℕ × Placed s n)
  pub lower : HostsLess s n (host i) uses
  pub adds_up : Same tree_discrete s.q (value i ++ scale s.q (value j)) (expand value uses)

-- the two places share a vertex and together hold all vertices; the first has the root
pub record IsSmall (s : Setting) (m : ℕ) (i j : Placed s m) : Type 0 where
  pub one_host : host i ≡ host j
  pub at_root : i.at.context ≡ hole
  pub front : Ctx ℕ
  pub part : Tree ℕ
  pub lead_is : i.of.lead ≡ fill front part
  pub second_at : j.at.context ≡ graft_ctx front i.at.parts
  pub shares : IsNode part
  pub covers : AllLeaves (union (graft part (λ k. leaf (i.at.parts k))) (graft j.of.lead (λ k. leaf (j.at.parts k)))) IsLeaf
  pub bare : (k : ℕ) → occurs k part ≡ 0 → IsLeaf (i.at.parts k)
  pub differ : front ≡ hole → i.of.lead ≡ j.of.lead → ⊥

-- each difference of two insertions at such places is a sum of insertions in smaller hosts
abbrev pub SmallMeet : Setting → ℕ → Type 0
SmallMeet s N = (m : ℕ) → m ≤ N → (i j : Placed s m) → IsSmall s m i j → Meets s m i j

module _ (s : Setting) (monic : AreMonic s) (g : Element) (m : Mem g s.elements) where
  pub lead_valid : IsShuffle g.arity g.lead
  lead_valid = (monic.each g m).lead_valid.shuffle

  pub lead_fits : Fits s.arity g.lead
  lead_fits = (monic.each g m).lead_valid.fits

  pub lead_node : IsNode g.lead
  lead_node = (monic.each g m).lead_node

  pub tail_fits : AllTerms g.tail (Fits s.arity)
  tail_fits = AllTerms-imp (λ x. IsShuffleTree s.arity g.arity x × IsLess s x g.lead) (Fits s.arity) g.tail (λ x h. h.0.fits) (monic.each g m).tail_valid

  pub tail_valid : AllTerms g.tail (λ x. IsShuffle g.arity x × IsLess s x g.lead)
  tail_valid = AllTerms-imp (λ x. IsShuffleTree s.arity g.arity x × IsLess s x g.lead) (λ x. IsShuffle g.arity x × IsLess s x g.lead) g.tail (λ x h. (h.0.shuffle, h.1)) (monic.each g m).tail_valid

  pub terms_valid : AllTerms (terms g) (IsShuffle g.arity)
  terms_valid = (lead_valid, AllTerms-imp (λ x. IsShuffle g.arity x × IsLess s x g.lead) (IsShuffle g.arity) g.tail (λ x h. h.0) tail_valid)

-- the leading tree in its slot
abbrev pub laid : (s : Setting) → AreMonic s → (n : ℕ) → Placed s n → Laid
laid s monic n i = record { size = i.of.arity; tree = i.of.lead; at = i.at; valid = lead_valid s monic i.of i.member; rises = i.rises }

-- the order is kept by slots
pub less_kept : (s : Setting) (order : IsTreeOrder s.arity s.compare) (k n : ℕ) (f : Slot) (x y : Tree ℕ) → PartsRise k f.parts → IsShuffle k x → IsShuffle k y
    → IsShuffle n (fill_slot f y) → IsLess s x y → IsLess s (fill_slot f x) (fill_slot f y)
less_kept s order k n f x y r hx hy v e =
    let vx = fill_slot-valid k n f y x r hy hx v in
    subst (λ t. IsLess s t (fill_slot f y)) (insert-frame_of k n f r x hx vx x hx)
    (subst (IsLess s (insert (frame_of k f) x)) (insert-frame_of k n f r x hx vx y hy)
    (order.kept k n (frame_of k f) x y (frame_of-is_frame k n f r x hx vx) hx hy (subst (IsShuffle n) (sym (insert-frame_of k n f r x hx vx x hx)) vx) ∙ e))

-- the difference the other way round
pub turned : (s : Setting) (n : ℕ) (i j : Placed s n) → host i ≡ host j → Meets s n j i → Meets s n i j
turned s n i j one m = record {
  uses = scale s.q m.uses;
  lower = AllTerms-scale s.q m.uses (λ k. IsLess s (host k) (host i)) (subst (λ w. HostsLess s n w m.uses) (sym one) m.lower);
  adds_up = λ t. Same-turned tree_discrete s.q (value j) (value i) (expand value m.uses) m.adds_up t ∙ Same-expand_scale tree_discrete s.q s.q value m.uses t;
}

-- ---- insertions and placed elements

module _ (s : Setting) (monic : AreMonic s) (n : ℕ) where
  -- the value is the element inserted at the place
  pub value_inserted : (i : Placed s n) → value i ≡ inserted i.of (host i) (set_of i)
  value_inserted i = sym (moved_eq (insert (frame_at (set_of i) (host i))) (fill_slot i.at) (IsShuffle i.of.arity) (terms i.of) (terms_valid s monic i.of i.member)
      (λ x h. ap (λ f. insert f x) (frame_at-slot i.of.arity i.at i.of.lead (lead_valid s monic i.of i.member) i.rises (lead_node s monic i.of i.member))
      ∙ insert-frame_of i.of.arity n i.at i.rises i.of.lead (lead_valid s monic i.of i.member) i.valid x h))

  unfoldable pub insertion : Placed s n → Insertion s n
  insertion i = record {
    of = i.of;
    member = i.member;
    tree = host i;
    set = set_of i;
    valid = record { fits = i.fits; shuffle = i.valid };
    place = place_of_cut (host i) (set_of i) i.of.lead (cut_of_slot i.of.arity i.at i.of.lead (lead_valid s monic i.of i.member) i.rises (lead_node s monic i.of i.member));
  }

  slot_of_place : (i : Insertion s n) → SlotAt i.tree i.set i.of.lead
  slot_of_place i = slot_at n i.tree i.valid.shuffle i.set i.of.lead (cut_of_place i.tree i.set i.of.lead i.place)

  pub placed : Insertion s n → Placed s n
  placed i = record {
    of = i.of;
    member = i.member;
    at = (slot_of_place i).at;
    rises = subst (λ k. PartsRise k (slot_of_place i).at.parts)
        (one_size (slot_of_place i).arity i.of.arity i.of.lead (slot_of_place i).valid (lead_valid s monic i.of i.member)) (slot_of_place i).rises;
    valid = subst (IsShuffle n) (sym (slot_of_place i).host_is) i.valid.shuffle;
    fits = subst (Fits s.arity) (sym (slot_of_place i).host_is) i.valid.fits;
  }

  pub placed_host : (i : Insertion s n) → host (placed i) ≡ i.tree
  unfolding placed
  placed_host i = (slot_of_place i).host_is

  pub placed_set : (i : Insertion s n) → set_of (placed i) ≡ i.set
  unfolding placed
  placed_set i = sym (slot_of_place i).set_is

  pub placed_of : (i : Insertion s n) → (placed i).of ≡ i.of
  unfolding placed
  placed_of i = refl

  pub placed_value : (i : Insertion s n) → value (placed i) ≡ value_of i
  placed_value i = value_inserted (placed i) ∙ ap (λ g. inserted g (host (placed i)) (set_of (placed i))) (placed_of i)
      ∙ ap (λ t. inserted i.of t (set_of (placed i))) (placed_host i) ∙ ap (inserted i.of i.tree) (placed_set i)

  pub insertion_value : (i : Placed s n) → value_of (insertion i) ≡ value i
  unfolding insertion
  insertion_value i = sym (value_inserted i)

  pub insertion_tree : (i : Placed s n) → (insertion i).tree ≡ host i
  unfolding insertion
  insertion_tree i = refl
