-- The transfer, and the kernel of the shuffle form.
use Rattle.std.proofs.Common.{◌≡◌, ℕ, zero, suc, ◌%◌, ◌<◌, ◌≤◌, List, [], ◌∷◌, length, refl, sym, ◌∙◌, ap, arith, subst}
use native.Mathlib.Decide.{ℕ_discrete}
use Rattle.modular_sums.specs.Lists.{Mem, Distinct}
use Rattle.modular_sums.specs.Sums.{coef, Same, expand, IsLinearCombination, moved, AllTerms}
use Rattle.modular_sums.proofs.Sums.{combination-same}
use Rattle.modular_sums.proofs.Images.{moved_eq, moved_ext, Same-moved}
use Rattle.labelled_trees.specs.Trees.{Tree, leaf, graft}
use Rattle.labelled_trees.specs.Leaves.{one_if, occurs}
use Rattle.labelled_trees.specs.Equality.{tree_discrete}
use Rattle.labelled_trees.specs.Labelled.{Fits, IsLabelled}
use Rattle.labelled_trees.proofs.Leaves.{by_leaf, at_leaf, AllLeaves-each, one_if-yes, sum_leaves-≤}
use Rattle.labelled_trees.proofs.GraftLeaves.{sum_leaves-graft, AllLeaves-graft}
use Rattle.labelled_trees.proofs.Fitting.{fits-graft}
use Rattle.shuffle_insertions.specs.ShuffleTrees.{IsShuffle, IsShuffleTree}
use Rattle.shuffle_insertions.specs.Frames.{Frame, insert}
use Rattle.shuffle_insertions.specs.Slots.{fill_slot}
use Rattle.shuffle_insertions.proofs.Frames.{frame_of, SlotOf, slot_of, frame_of-is_frame, insert-frame_of}
use Rattle.operad_ideals.specs.Presentations.{Presentation, arity_of, IsSound, without_relations}
use Rattle.modular_sums.proofs.Links.{member_zero, member_one, member_through}
use Rattle.operad_ideals.proofs.HoleInstances.{ideals_are_one}
use Rattle.shuffle_transfer.specs.Orderings.{IsOrdering, entry}
use Rattle.shuffle_transfer.specs.Labels.{inputs_of, shuffle_form}
use Rattle.shuffle_transfer.specs.Transfer.{relabelled, shuffled, RelationInsertion, inserted_relation, Transfer}
use Rattle.shuffle_transfer.specs.Laws.{Kernel}
use Rattle.shuffle_transfer.proofs.Permutes.{permutes_each}
use Rattle.shuffle_transfer.proofs.Orderings.{ordering_permutes, entry_mem, mem_entry, entry_within}
use Rattle.shuffle_insertions.proofs.Upto.{in_upto}
use Rattle.shuffle_transfer.proofs.ShuffleFormsFit.{forth}
use Rattle.shuffle_transfer.proofs.Turned.{turned, shuffled-turned}
use Rattle.shuffle_transfer.proofs.SlotInsertions.{SlotInsertion, slot_inserted}
use Rattle.shuffle_transfer.proofs.InstancesToInsertions.{forward}
use Rattle.shuffle_transfer.proofs.InsertionsToInstances.{backward}

-- ---- relabelled trees are labelled

pub entry_apart : (v : List ℕ) → Distinct v → (i j : ℕ) → i < length v → j < length v → entry v (suc i) ≡ entry v (suc j) → i ≡ j
entry_apart [] d i j a b e = absurd (omega (arith, a))
entry_apart (x ∷ v) d zero zero a b e = refl
entry_apart (x ∷ v) d zero (suc j) a b e = absurd (d.0 (subst (λ z. Mem z v) (sym e) (entry_mem v (suc j) (omega arith) (omega (arith, b)))))
entry_apart (x ∷ v) d (suc i) zero a b e = absurd (d.0 (subst (λ z. Mem z v) e (entry_mem v (suc i) (omega arith) (omega (arith, a)))))
entry_apart (x ∷ v) d (suc i) (suc j) a b e = ap suc (entry_apart v d.1 i j (omega (arith, a)) (omega (arith, b)) e)

module _ (arity : ℕ → ℕ) (m : ℕ) (v : List ℕ) (o : IsOrdering m v) (x : Tree ℕ) (h : IsLabelled arity m x) where
  abbrev renamed : Tree ℕ
  renamed = graft x (λ i. leaf (entry v i))

  same_entry : (j a : ℕ) → j < length v → 0 < a → a ≤ m → entry v a ≡ entry v (suc j) → a ≡ suc j
  same_entry j zero l p le e = absurd (omega (arith, p))
  same_entry j (suc a) l p le e = ap suc (entry_apart v o.distinct a j (let n : length v ≡ m = o.length_is in omega (arith, le, n)) l e)

  renamed_only : (i : ℕ) → 0 < occurs i renamed → (0 < i) × (i ≤ m)
  renamed_only i p = at_leaf renamed (λ k. (0 < k) × (k ≤ m)) i
      (AllLeaves-graft x (λ k. leaf (entry v k)) (λ k. (0 < k) × (k ≤ m)) (by_leaf x (λ k. (0 < entry v k) × (entry v k ≤ m)) (λ k q. let r = h.only k q in entry_within m v o k r.0 r.1))) p

  -- each of the leaves that become the entry after j is the leaf after j
  at_most : (j : ℕ) → j < length v → occurs (entry v (suc j)) renamed ≤ occurs (suc j) x
  at_most j l = subst (λ k. k ≤ occurs (suc j) x) (sym (sum_leaves-graft x (λ k. leaf (entry v k)) (λ n. one_if (ℕ_discrete n (entry v (suc j))))))
      (sum_leaves-≤ x (λ a. one_if (ℕ_discrete (entry v a) (entry v (suc j)))) (λ a. one_if (ℕ_discrete a (suc j)))
      (by_leaf x (λ a. one_if (ℕ_discrete (entry v a) (entry v (suc j))) ≤ one_if (ℕ_discrete a (suc j))) (λ a q. let r = h.only a q in go a r.0 r.1 (ℕ_discrete (entry v a) (entry v (suc j))))))
    where
      go : (a : ℕ) → 0 < a → a ≤ m → (d : Dec (entry v a ≡ entry v (suc j))) → one_if d ≤ one_if (ℕ_discrete a (suc j))
      go a p le (yes e) = let k : one_if (ℕ_discrete a (suc j)) ≡ 1 = one_if-yes (ℕ_discrete a (suc j)) (same_entry j a l p le e) in omega (arith, k)
      go a p le (no f) = omega arith

  at_least : (j : ℕ) → j < length v → occurs (suc j) x ≤ occurs (entry v (suc j)) renamed
  at_least j l = subst (λ k. occurs (suc j) x ≤ k) (sym (sum_leaves-graft x (λ k. leaf (entry v k)) (λ n. one_if (ℕ_discrete n (entry v (suc j))))))
      (sum_leaves-≤ x (λ a. one_if (ℕ_discrete a (suc j))) (λ a. one_if (ℕ_discrete (entry v a) (entry v (suc j))))
      (AllLeaves-each x (λ a. one_if (ℕ_discrete a (suc j)) ≤ one_if (ℕ_discrete (entry v a) (entry v (suc j)))) (λ a. go a (ℕ_discrete a (suc j)))))
    where
      go : (a : ℕ) → (d : Dec (a ≡ suc j)) → one_if d ≤ one_if (ℕ_discrete (entry v a) (entry v (suc j)))
      go a (yes e) = let k : one_if (ℕ_discrete (entry v a) (entry v (suc j))) ≡ 1 = one_if-yes (ℕ_discrete (entry v a) (entry v (suc j))) (ap (entry v) e) in omega (arith, k)
      go a (no f) = omega arith

  renamed_each : (i : ℕ) → 0 < i → i ≤ m → occurs i renamed ≡ 1
  renamed_each i p le =
      let k = mem_entry v i (permutes_each _ v (ordering_permutes m v o) i (in_upto m i p le)) in
      let one : occurs (suc k.0) x ≡ 1 = h.each (suc k.0) (omega arith) (let n : length v ≡ m = o.length_is in let l : k.0 < length v = k.2 in omega (arith, n, l)) in
      let a = at_most k.0 k.2 in
      let b = at_least k.0 k.2 in
      subst (λ j. occurs j renamed ≡ 1) (sym k.1) (omega (arith, a, b, one))

  pub labelled-renamed : IsLabelled arity m renamed
  labelled-renamed = record {
    fits = fits-graft arity x (λ i. leaf (entry v i)) h.fits (AllLeaves-each x (λ i. Fits {A = ℕ} arity (leaf (entry v i))) (λ i. tt));
    each = renamed_each;
    only = renamed_only;
  }

pub labelled-relabelled : (arity : ℕ → ℕ) (m : ℕ) (v : List ℕ) → IsOrdering m v → (e : List (ℕ × Tree ℕ)) → AllTerms e (IsLabelled arity m) → AllTerms (relabelled v e) (IsLabelled arity m)
labelled-relabelled arity m v o [] h = tt
labelled-relabelled arity m v o (x ∷ e) h = (labelled-renamed arity m v o x.1 h.0, labelled-relabelled arity m v o e h.1)

-- ---- frames and slots

module _ (p : Presentation) (n : ℕ) where
  abbrev arity : ℕ → ℕ
  arity = arity_of p

  abbrev Shuffles : Tree ℕ → Type 0
  Shuffles = IsShuffleTree (inputs_of p.generators) n

  -- the trees are those of the other form
  valid_turned : (f g : Tree ℕ → Tree ℕ) (P : Tree ℕ → Type 0) (e : List (ℕ × Tree ℕ)) → AllTerms (turned p e) P → ((x : Tree ℕ) → P x → f x ≡ g x) → AllTerms (moved f (shuffled p e)) Shuffles → AllTerms (moved g (turned p e)) Shuffles
  valid_turned f g P [] k h v = tt
  valid_turned f g P (x ∷ e) k h v = (subst Shuffles (h (shuffle_form p.generators x.1) k.0) v.0, valid_turned f g P e k.1 h v.1)

  valid_shuffled : (f g : Tree ℕ → Tree ℕ) (P : Tree ℕ → Type 0) (e : List (ℕ × Tree ℕ)) → AllTerms (turned p e) P → ((x : Tree ℕ) → P x → f x ≡ g x) → AllTerms (moved f (turned p e)) Shuffles → AllTerms (moved g (shuffled p e)) Shuffles
  valid_shuffled f g P [] k h v = tt
  valid_shuffled f g P (x ∷ e) k h v = (subst Shuffles (h (shuffle_form p.generators x.1) k.0) v.0, valid_shuffled f g P e k.1 h v.1)

  forms_shuffle : (m : ℕ) (e : List (ℕ × Tree ℕ)) → AllTerms e (IsLabelled arity m) → AllTerms (turned p e) (IsShuffle m)
  forms_shuffle m [] h = tt
  forms_shuffle m (x ∷ e) h = ((forth p.generators m x.1 h.0).shuffle, forms_shuffle m e h.1)

  abbrev Any : Tree ℕ → Type 0
  Any x = Unit {0}

  any_terms : (e : List (ℕ × Tree ℕ)) → AllTerms e Any
  any_terms [] = tt
  any_terms (x ∷ e) = (tt, any_terms e)

  module _ (sound : IsSound p) where
    -- an insertion into a frame as one into a slot
    pub from_frame : (i : RelationInsertion p n) → IsLinearCombination tree_discrete (slot_inserted p n) p.q (inserted_relation p n i)
    from_frame i = combination-same tree_discrete (slot_inserted p n) p.q {e = inserted_relation p n i} {f = slot_inserted p n instance}
        (λ t. Same-moved tree_discrete tree_discrete p.q (insert i.frame) (shuffled p r) (turned p r) (shuffled-turned p i.relation.arity r labels) t
        ∙ ap (λ e. coef tree_discrete e t % suc p.q) (moved_ext (insert i.frame) (fill_slot s.slot) (turned p r) s.inserts))
        (member_one tree_discrete (slot_inserted p n) p.q instance)
      where
        r : List (ℕ × Tree ℕ)
        r = relabelled i.permutation i.relation.terms

        labels : AllTerms r (IsLabelled arity i.relation.arity)
        labels = labelled-relabelled arity i.relation.arity i.permutation i.permutes i.relation.terms (sound i.relation i.there)

        s : SlotOf i.relation.arity i.frame
        s = slot_of i.relation.arity i.frame i.is_frame

        instance : SlotInsertion p n
        instance = record {
          relation = i.relation;
          there = i.there;
          permutation = i.permutation;
          permutes = i.permutes;
          slot = s.slot;
          rises = s.rises;
          valid = valid_turned (insert i.frame) (fill_slot s.slot) Any r (any_terms (turned p r)) (λ x u. s.inserts x) i.valid;
        }

    -- and conversely
    pub to_frame : (i : SlotInsertion p n) → IsLinearCombination tree_discrete (inserted_relation p n) p.q (slot_inserted p n i)
    to_frame i = go i.relation.terms refl
      where
        k : ℕ
        k = i.relation.arity

        f : Frame
        f = frame_of i.relation.arity i.slot

        r : List (ℕ × Tree ℕ)
        r = relabelled i.permutation i.relation.terms

        labels : AllTerms (relabelled i.permutation i.relation.terms) (IsLabelled arity i.relation.arity)
        labels = labelled-relabelled arity i.relation.arity i.permutation i.permutes i.relation.terms (sound i.relation i.there)

        made : (x : Tree ℕ) → IsShuffle i.relation.arity x → IsShuffle n (fill_slot i.slot x) → IsLinearCombination tree_discrete (inserted_relation p n) p.q (slot_inserted p n i)
        made x hx v = combination-same tree_discrete (inserted_relation p n) p.q {e = slot_inserted p n i} {f = inserted_relation p n instance}
            (λ t. sym (Same-moved tree_discrete tree_discrete p.q (insert f) (shuffled p r) (turned p r) (shuffled-turned p i.relation.arity r labels) t
            ∙ ap (λ e. coef tree_discrete e t % suc p.q)
            (moved_eq (insert f) (fill_slot i.slot) (IsShuffle i.relation.arity) (turned p r) (forms_shuffle i.relation.arity r labels) (insert-frame_of i.relation.arity n i.slot i.rises x hx v))))
            (member_one tree_discrete (inserted_relation p n) p.q instance)
          where
            instance : RelationInsertion p n
            instance = record {
              relation = i.relation;
              there = i.there;
              permutation = i.permutation;
              permutes = i.permutes;
              frame = frame_of i.relation.arity i.slot;
              is_frame = frame_of-is_frame i.relation.arity n i.slot i.rises x hx v;
              valid = valid_shuffled (fill_slot i.slot) (insert (frame_of i.relation.arity i.slot)) (IsShuffle i.relation.arity) r (forms_shuffle i.relation.arity r labels)
                  (λ y hy. sym (insert-frame_of i.relation.arity n i.slot i.rises x hx v y hy)) i.valid;
            }

        go : (l : List (ℕ × Tree ℕ)) → i.relation.terms ≡ l → IsLinearCombination tree_discrete (inserted_relation p n) p.q (slot_inserted p n i)
        go [] e = subst (λ l. IsLinearCombination tree_discrete (inserted_relation p n) p.q (moved (fill_slot i.slot) (turned p (relabelled i.permutation l)))) (sym e) (member_zero tree_discrete (inserted_relation p n) p.q)
        go (x ∷ l) e =
            let h : AllTerms (turned p (relabelled i.permutation (x ∷ l))) (IsShuffle i.relation.arity) = subst (λ t. AllTerms (turned p (relabelled i.permutation t)) (IsShuffle i.relation.arity)) e (forms_shuffle i.relation.arity r labels) in
            let v : AllTerms (moved (fill_slot i.slot) (turned p (relabelled i.permutation (x ∷ l)))) Shuffles = subst (λ t. AllTerms (moved (fill_slot i.slot) (turned p (relabelled i.permutation t))) Shuffles) e i.valid in
            made (shuffle_form p.generators (graft x.1 (λ j. leaf (entry i.permutation j)))) h.0 (v.0.shuffle)

pub transfer_law : Transfer
transfer_law p n e sound h = (
  λ m. combination-same tree_discrete (inserted_relation p n) p.q {e = shuffled p e} {f = turned p e} (shuffled-turned p n e h)
      (member_through tree_discrete p.q (slot_inserted p n) (inserted_relation p n) (to_frame p n sound) (turned p e) (forward p n sound e ((ideals_are_one p n e sound).0 m))),
  λ m. (ideals_are_one p n e sound).1 (backward p n sound e h
      (member_through tree_discrete p.q (inserted_relation p n) (slot_inserted p n) (from_frame p n sound) (turned p e)
      (combination-same tree_discrete (inserted_relation p n) p.q {e = turned p e} {f = shuffled p e} (λ t. sym (shuffled-turned p n e h t)) m))),
)

no_insertions : (p : Presentation) (n : ℕ) (l : List (ℕ × RelationInsertion (without_relations p) n)) → expand (inserted_relation (without_relations p) n) l ≡ []
unfolding expand
no_insertions p n [] = refl
no_insertions p n (x ∷ l) = absurd x.1.there

pub kernel : Kernel
unfolding expand
kernel p n e h = (
  λ m. let k = (transfer_law (without_relations p) n e (λ r i. absurd i) h).0 m in
      subst (Same tree_discrete p.q (shuffled p e)) (no_insertions p n k.uses) k.adds_up,
  λ s. (transfer_law (without_relations p) n e (λ r i. absurd i) h).1 record { uses = []; adds_up = s },
)
