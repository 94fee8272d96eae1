-- A certified list of elements, its insertions, and the trees that no leading tree divides.
use Rattle.std.proofs.Common.{◌≡◌, ℕ, ◌≤◌, List, [], ◌∷◌, refl, sym, ◌∙◌, arith, subst}
use Rattle.std.specs.declared.cmp.Ordering.{Ordering}
use Rattle.modular_sums.specs.Sums.{IsLinearCombination, moved, AllTerms}
use Rattle.modular_sums.proofs.Images.{moved_ext}
use Rattle.labelled_trees.specs.Trees.{Tree, leaf, graft}
use Rattle.labelled_trees.specs.Leaves.{sum_leaves, leaf_count}
use Rattle.labelled_trees.specs.Equality.{tree_discrete}
use Rattle.labelled_trees.specs.Labelled.{IsLabelled}
use Rattle.labelled_trees.proofs.Leaves.{by_leaf, sum_leaves-≤}
use Rattle.labelled_trees.proofs.Counts.{leaf_count-numbered}
use Rattle.labelled_trees.proofs.ContextLeaves.{sum_of_fill}
use Rattle.labelled_trees.proofs.GraftLeaves.{sum_leaves-graft}
use Rattle.shuffle_insertions.specs.ShuffleTrees.{IsShuffleTree}
use Rattle.shuffle_insertions.specs.Frames.{Frame, insert, IsFrame}
use Rattle.shuffle_insertions.specs.Slots.{Slot, fill_slot, PartsRise}
use Rattle.shuffle_insertions.specs.Orders.{IsTreeOrder}
use Rattle.shuffle_insertions.proofs.Rising.{rising-some_leaf}
use Rattle.shuffle_insertions.proofs.LabelSums.{numbered_of_shuffle}
use Rattle.shuffle_insertions.proofs.Frames.{SlotOf, slot_of}
use Rattle.shuffle_places.specs.Places.{frame_at}
use Rattle.shuffle_places.proofs.Sizes.{one_size}
use Rattle.shuffle_places.proofs.Laws.{place_frames}
use Rattle.shuffle_bases.specs.Elements.{Element, terms, Setting, Insertion, value_of}
use Rattle.shuffle_normal_forms.specs.NormalForms.{InSpan}
use Rattle.operad_ideals.specs.Presentations.{Relation, Presentation, arity_of, IsWide, IsSound}
use Rattle.operad_ideals.specs.Ideals.{InIdeal}
use Rattle.modular_sums.proofs.Links.{member_zero, member_through}
use Rattle.shuffle_transfer.specs.Orderings.{entry}
use Rattle.shuffle_transfer.specs.Labels.{inputs_of, shuffle_form}
use Rattle.shuffle_transfer.specs.Transfer.{relabelled, shuffled, RelationInsertion, inserted_relation, IsSumOfInsertions}
use Rattle.shuffle_transfer.specs.GroebnerBases.{setting, IsGroebnerBasis}
use Rattle.shuffle_transfer.proofs.Orderings.{all_orderings}
use Rattle.shuffle_transfer.proofs.ShuffleFormsFit.{forth}
use Rattle.shuffle_transfer.proofs.TransferLaw.{labelled-relabelled, transfer_law}
use Rattle.shuffle_transfer.proofs.Carrying.{relations_carried, elements_carried}

-- a presentation, an order of the shuffle trees over its labels, and elements that are certified through an arity
pub record Given : Type 0 where
  pub presentation : Presentation
  pub sound : IsSound presentation
  pub wide : IsWide presentation
  pub compare : Tree ℕ → Tree ℕ → Ordering
  pub order : IsTreeOrder (inputs_of presentation.generators) compare
  pub elements : List Element
  pub most : ℕ
  pub certified : IsGroebnerBasis presentation compare elements most

abbrev pub setting_of : Given → Setting
setting_of c = setting c.presentation c.compare c.elements

-- ---- arities

-- what stands in a slot has no greater arity
arity_le : (arity : ℕ → ℕ) (m n : ℕ) (f : Slot) → PartsRise m f.parts → (x : Tree ℕ) → IsShuffleTree arity m x → IsShuffleTree arity n (fill_slot f x) → m ≤ n
arity_le arity m n f rises x hx v =
    let k : leaf_count (graft x f.parts) ≤ leaf_count (fill_slot f x) = sum_of_fill f.context (graft x f.parts) (λ i. 1) in
    let l : leaf_count x ≤ sum_leaves x (λ i. leaf_count (f.parts i))
    = sum_leaves-≤ x (λ i. 1) (λ i. leaf_count (f.parts i)) (by_leaf x (λ i. 1 ≤ leaf_count (f.parts i)) (λ i o. let r = hx.shuffle.only i o in rising-some_leaf (f.parts i) (rises.each i r.0 r.1))) in
    omega (arith, k, l, sum_leaves-graft x f.parts (λ i. 1), leaf_count-numbered m x (numbered_of_shuffle hx.shuffle), leaf_count-numbered n (fill_slot f x) (numbered_of_shuffle v.shuffle))

module _ (c : Given) (n : ℕ) (le : n ≤ c.most) where
  abbrev p : Presentation
  p = c.presentation

  abbrev Shuffles : Tree ℕ → Type 0
  Shuffles = IsShuffleTree (inputs_of c.presentation.generators) n

  -- ---- relations, inserted, are sums of insertions of the elements

  by_terms : (j : RelationInsertion c.presentation n) (l : List (ℕ × Tree ℕ)) → j.relation.terms ≡ l → InSpan (setting_of c) n (moved (insert j.frame) (shuffled c.presentation (relabelled j.permutation l)))
  by_terms j [] e = member_zero tree_discrete value_of c.presentation.q
  by_terms j (x ∷ l) e =
      let r : Relation = j.relation in
      let s : SlotOf r.arity j.frame = slot_of r.arity j.frame j.is_frame in
      let labels : AllTerms (relabelled j.permutation (x ∷ l)) (IsLabelled (arity_of p) r.arity)
      = labelled-relabelled (arity_of p) r.arity j.permutation j.permutes (x ∷ l) (subst (λ t. AllTerms t (IsLabelled (arity_of p) r.arity)) e (c.sound r j.there)) in
      let z : Tree ℕ = shuffle_form p.generators (graft x.1 (λ i. leaf (entry j.permutation i))) in
      let hz : IsShuffleTree (inputs_of p.generators) r.arity z = forth p.generators r.arity (graft x.1 (λ i. leaf (entry j.permutation i))) labels.0 in
      let v : AllTerms (moved (insert j.frame) (shuffled p (relabelled j.permutation (x ∷ l)))) Shuffles
      = subst (λ t. AllTerms (moved (insert j.frame) (shuffled p (relabelled j.permutation t))) Shuffles) e j.valid in
      let vz : IsShuffleTree (inputs_of p.generators) n (fill_slot s.slot z) = subst Shuffles (s.inserts z) v.0 in
      let few : r.arity ≤ n = arity_le (inputs_of p.generators) r.arity n s.slot s.rises z hz vz in
      subst (InSpan (setting_of c) n) (sym (moved_ext (insert j.frame) (fill_slot s.slot) (shuffled p (relabelled j.permutation (x ∷ l))) s.inserts))
      (elements_carried (setting_of c) c.certified.monic r.arity n s.slot s.rises z hz.shuffle vz (shuffled p (relabelled j.permutation (x ∷ l)))
      (subst (λ t. IsLinearCombination tree_discrete (value_of {s = setting_of c} {n = r.arity}) p.q (shuffled p (relabelled j.permutation t))) e
      (c.certified.relations r j.there (omega (arith, few, le)) j.permutation (((all_orderings r.arity).2 j.permutation).1 j.permutes))))

  -- the shuffle form of an element of the ideal
  pub ideal_span : (e : List (ℕ × Tree ℕ)) → AllTerms e (IsLabelled (arity_of c.presentation) n) → InIdeal c.presentation n e → InSpan (setting_of c) n (shuffled c.presentation e)
  ideal_span e h m = member_through tree_discrete p.q (inserted_relation p n) value_of (λ j. by_terms j j.relation.terms refl) (shuffled p e) ((transfer_law p n e c.sound h).0 m)

  -- ---- an insertion of an element

  abbrev frame_of : Insertion (setting_of c) n → Frame
  frame_of i = frame_at i.set i.tree

  pub record Framed (i : Insertion (setting_of c) n) : Type 0 where
    pub is_frame : IsFrame i.of.arity (frame_at i.set i.tree)
    pub back : insert (frame_at i.set i.tree) i.of.lead ≡ i.tree

  framed : (i : Insertion (setting_of c) n) → Framed i
  framed i =
      let k = place_frames.0 n i.tree i.set i.of.lead i.valid.shuffle i.place in
      record { is_frame = subst (λ m. IsFrame m (frame_at i.set i.tree)) (one_size k.0 i.of.arity i.of.lead k.1 (c.certified.monic.each i.of i.member).lead_valid.shuffle) k.2; back = k.3 }

  -- an insertion lies in the ideal of the shuffle forms
  pub insertion_in_ideal : (i : Insertion (setting_of c) n) → IsSumOfInsertions c.presentation n (value_of i)
  insertion_in_ideal i =
      let f = framed i in
      let s : SlotOf i.of.arity (frame_of i) = slot_of i.of.arity (frame_of i) f.is_frame in
      let v : Shuffles (fill_slot s.slot i.of.lead) = subst Shuffles (sym f.back ∙ s.inserts i.of.lead) i.valid in
      subst (IsSumOfInsertions p n) (sym (moved_ext (insert (frame_of i)) (fill_slot s.slot) (terms i.of) s.inserts))
      (relations_carried p c.sound i.of.arity n s.slot s.rises i.of.lead (c.certified.monic.each i.of i.member).lead_valid.shuffle v (terms i.of) (c.certified.in_ideal i.of i.member))

  -- an element whose shuffle form lies in the span lies in the ideal
  pub span_ideal : (e : List (ℕ × Tree ℕ)) → AllTerms e (IsLabelled (arity_of c.presentation) n) → InSpan (setting_of c) n (shuffled c.presentation e) → InIdeal c.presentation n e
  span_ideal e h m = (transfer_law p n e c.sound h).1 (member_through tree_discrete p.q value_of (inserted_relation p n) insertion_in_ideal (shuffled p e) m)
