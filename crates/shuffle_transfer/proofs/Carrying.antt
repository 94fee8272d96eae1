-- Sums of insertions, inserted once more.
use Rattle.std.proofs.Common.{◌≡◌, ℕ, List, [], ◌∷◌, refl, sym, ◌∙◌, ap, subst}
use mathlib.Core.List.{◌++◌}
use Rattle.std.proofs.Common.{◌%◌, suc}
use Rattle.modular_sums.specs.Sums.{coef, scale, expand, IsLinearCombination, moved, AllTerms}
use Rattle.modular_sums.proofs.Sums.{combination-append, combination-scale, combination-same}
use Rattle.modular_sums.proofs.Images.{moved-moved, moved_ext, moved-append, moved-scale, moved-expand, Same-moved}
use Rattle.labelled_trees.specs.Trees.{Tree, leaf, graft}
use Rattle.labelled_trees.specs.Equality.{tree_discrete}
use Rattle.labelled_trees.specs.Labelled.{Fits, IsLabelled}
use Rattle.shuffle_insertions.specs.ShuffleTrees.{IsShuffle, IsShuffleTree}
use Rattle.shuffle_insertions.specs.Slots.{Slot, fill_slot, PartsRise}
use Rattle.shuffle_insertions.proofs.Insertions.{fill_slot-valid, fill_slot-fits}
use Rattle.shuffle_insertions.proofs.NestedSlots.{into, fill_slot-into, into_rises}
use Rattle.shuffle_bases.specs.Elements.{terms, Setting, AreMonic, value_of}
use Rattle.shuffle_bases.proofs.Placed.{Placed, host, value, lead_valid, placed, placed_value, insertion, insertion_value}
use Rattle.operad_ideals.specs.Presentations.{Presentation, arity_of, IsSound}
use Rattle.modular_sums.proofs.Links.{member_zero, member_one, member_through}
use Rattle.shuffle_transfer.specs.Orderings.{entry}
use Rattle.shuffle_transfer.specs.Labels.{inputs_of, shuffle_form}
use Rattle.shuffle_transfer.specs.Transfer.{relabelled, IsSumOfInsertions, inserted_relation}
use Rattle.shuffle_transfer.proofs.Turned.{turned}
use Rattle.shuffle_transfer.proofs.SlotInsertions.{SlotInsertion, slot_inserted}
use Rattle.shuffle_transfer.proofs.ShuffleFormsFit.{forth}
use Rattle.shuffle_transfer.proofs.TransferLaw.{labelled-relabelled, from_frame, to_frame}

-- ---- insertions of relations

module _ (p : Presentation) (sound : IsSound p) (m n : ℕ) (f : Slot) (rises : PartsRise m f.parts) (x : Tree ℕ) (hx : IsShuffle m x) (vx : IsShuffleTree (inputs_of p.generators) n (fill_slot f x)) where
  -- where one tree gives a shuffle tree, each of its arity does
  over_all : (y : Tree ℕ) → IsShuffleTree (inputs_of p.generators) m y → IsShuffleTree (inputs_of p.generators) n (fill_slot f y)
  over_all y h = record { fits = fill_slot-fits (inputs_of p.generators) m f x y hx h.shuffle vx.fits h.fits; shuffle = fill_slot-valid m n f x y rises hx h.shuffle vx.shuffle }

  all_over : (g : Slot) (e : List (ℕ × Tree ℕ)) → AllTerms (moved (fill_slot g) e) (IsShuffleTree (inputs_of p.generators) m) → AllTerms (moved (fill_slot (into m n f rises g)) e) (IsShuffleTree (inputs_of p.generators) n)
  all_over g [] h = tt
  all_over g (y ∷ e) h = (subst (IsShuffleTree (inputs_of p.generators) n) (sym (fill_slot-into m n f rises g y.1)) (over_all (fill_slot g y.1) h.0), all_over g e h.1)

  carried_terms : (j : SlotInsertion p m) (l : List (ℕ × Tree ℕ)) → j.relation.terms ≡ l → IsLinearCombination tree_discrete (slot_inserted p n) p.q (moved (fill_slot f) (moved (fill_slot j.slot) (turned p (relabelled j.permutation l))))
  carried_terms j [] e = member_zero tree_discrete (slot_inserted p n) p.q
  carried_terms j (y ∷ l) e =
      let labels : AllTerms (relabelled j.permutation (y ∷ l)) (IsLabelled (arity_of p) j.relation.arity)
      = labelled-relabelled (arity_of p) j.relation.arity j.permutation j.permutes (y ∷ l) (subst (λ t. AllTerms t (IsLabelled (arity_of p) j.relation.arity)) e (sound j.relation j.there)) in
      let v : AllTerms (moved (fill_slot j.slot) (turned p (relabelled j.permutation (y ∷ l)))) (IsShuffleTree (inputs_of p.generators) m)
      = subst (λ t. AllTerms (moved (fill_slot j.slot) (turned p (relabelled j.permutation t))) (IsShuffleTree (inputs_of p.generators) m)) e j.valid in
      let z : Tree ℕ = shuffle_form p.generators (graft y.1 (λ i. leaf (entry j.permutation i))) in
      subst (IsLinearCombination tree_discrete (slot_inserted p n) p.q)
      (moved_ext (fill_slot (into m n f rises j.slot)) (λ t. fill_slot f (fill_slot j.slot t)) (turned p (relabelled j.permutation (y ∷ l))) (λ t. fill_slot-into m n f rises j.slot t)
      ∙ sym (moved-moved (fill_slot j.slot) (fill_slot f) (turned p (relabelled j.permutation (y ∷ l)))))
      (subst (λ k. IsLinearCombination tree_discrete (slot_inserted p n) p.q (moved (fill_slot (into m n f rises j.slot)) (turned p (relabelled j.permutation k)))) e
      (member_one tree_discrete (slot_inserted p n) p.q record {
        relation = j.relation;
        there = j.there;
        permutation = j.permutation;
        permutes = j.permutes;
        slot = into m n f rises j.slot;
        rises = into_rises m n f rises j.relation.arity j.slot j.rises z (forth p.generators j.relation.arity (graft y.1 (λ i. leaf (entry j.permutation i))) labels.0).shuffle v.0.shuffle;
        valid = subst (λ k. AllTerms (moved (fill_slot (into m n f rises j.slot)) (turned p (relabelled j.permutation k))) (IsShuffleTree (inputs_of p.generators) n)) (sym e) (all_over j.slot (turned p (relabelled j.permutation (y ∷ l))) v);
      }))

  carried_all : (l : List (ℕ × SlotInsertion p m)) → IsLinearCombination tree_discrete (slot_inserted p n) p.q (moved (fill_slot f) (expand (slot_inserted p m) l))
  unfolding expand
  carried_all [] = member_zero tree_discrete (slot_inserted p n) p.q
  carried_all (j ∷ l) =
      subst (IsLinearCombination tree_discrete (slot_inserted p n) p.q)
      (sym (moved-append (fill_slot f) (scale j.0 (slot_inserted p m j.1)) (expand (slot_inserted p m) l)
      ∙ ap (λ k. k ++ moved (fill_slot f) (expand (slot_inserted p m) l)) (moved-scale (fill_slot f) j.0 (slot_inserted p m j.1))))
      (combination-append tree_discrete (slot_inserted p n) p.q {e = scale j.0 (moved (fill_slot f) (slot_inserted p m j.1))} {f = moved (fill_slot f) (expand (slot_inserted p m) l)}
      (combination-scale tree_discrete (slot_inserted p n) p.q j.0 {e = moved (fill_slot f) (slot_inserted p m j.1)} (carried_terms j.1 j.1.relation.terms refl)) (carried_all l))

  -- a sum of insertions of relations, inserted
  pub relations_carried : (e : List (ℕ × Tree ℕ)) → IsSumOfInsertions p m e → IsSumOfInsertions p n (moved (fill_slot f) e)
  relations_carried e h =
      let k : IsLinearCombination tree_discrete (slot_inserted p m) p.q e = member_through tree_discrete p.q (inserted_relation p m) (slot_inserted p m) (from_frame p m sound) e h in
      member_through tree_discrete p.q (slot_inserted p n) (inserted_relation p n) (to_frame p n sound) (moved (fill_slot f) e)
      (combination-same tree_discrete (slot_inserted p n) p.q {e = moved (fill_slot f) e} {f = moved (fill_slot f) (expand (slot_inserted p m) k.uses)}
      (Same-moved tree_discrete tree_discrete p.q (fill_slot f) e (expand (slot_inserted p m) k.uses) k.adds_up) (carried_all k.uses))

-- ---- insertions of elements

module _ (s : Setting) (monic : AreMonic s) where
  in_slots : (n : ℕ) (e : List (ℕ × Tree ℕ)) → IsLinearCombination tree_discrete (value_of {s = s} {n = n}) s.q e → IsLinearCombination tree_discrete (value {s = s} {n = n}) s.q e
  in_slots n e h = member_through tree_discrete s.q value_of value
      (λ i. subst (IsLinearCombination tree_discrete (value {s = s} {n = n}) s.q) (placed_value s monic n i) (member_one tree_discrete value s.q (placed s monic n i))) e h

  in_places : (n : ℕ) (e : List (ℕ × Tree ℕ)) → IsLinearCombination tree_discrete (value {s = s} {n = n}) s.q e → IsLinearCombination tree_discrete (value_of {s = s} {n = n}) s.q e
  in_places n e h = member_through tree_discrete s.q value value_of
      (λ i. subst (IsLinearCombination tree_discrete (value_of {s = s} {n = n}) s.q) (insertion_value s monic n i) (member_one tree_discrete value_of s.q (insertion s monic n i))) e h

  module _ (m n : ℕ) (f : Slot) (rises : PartsRise m f.parts) (x : Tree ℕ) (hx : IsShuffle m x) (vx : IsShuffleTree s.arity n (fill_slot f x)) where
    carried : Placed s m → Placed s n
    carried i = record {
      of = i.of;
      member = i.member;
      at = into m n f rises i.at;
      rises = into_rises m n f rises i.of.arity i.at i.rises i.of.lead (lead_valid s monic i.of i.member) i.valid;
      valid = subst (IsShuffle n) (sym (fill_slot-into m n f rises i.at i.of.lead)) (fill_slot-valid m n f x (host i) rises hx i.valid vx.shuffle);
      fits = subst (Fits s.arity) (sym (fill_slot-into m n f rises i.at i.of.lead)) (fill_slot-fits s.arity m f x (host i) hx i.valid vx.fits i.fits);
    }

    carried_value : (i : Placed s m) → value (carried i) ≡ moved (fill_slot f) (value i)
    unfolding carried
    carried_value i = moved_ext (fill_slot (into m n f rises i.at)) (λ t. fill_slot f (fill_slot i.at t)) (terms i.of) (λ t. fill_slot-into m n f rises i.at t) ∙ sym (moved-moved (fill_slot i.at) (fill_slot f) (terms i.of))

    -- a sum of insertions of elements, inserted
    pub elements_carried : (e : List (ℕ × Tree ℕ)) → IsLinearCombination tree_discrete (value_of {s = s} {n = m}) s.q e → IsLinearCombination tree_discrete (value_of {s = s} {n = n}) s.q (moved (fill_slot f) e)
    elements_carried e h =
        let k = in_slots m e h in
        in_places n (moved (fill_slot f) e) record {
          uses = moved carried k.uses;
          adds_up = λ t. Same-moved tree_discrete tree_discrete s.q (fill_slot f) e (expand value k.uses) k.adds_up t
              ∙ ap (λ l. coef tree_discrete l t % suc s.q) (moved-expand value value (fill_slot f) carried carried_value k.uses);
        }
