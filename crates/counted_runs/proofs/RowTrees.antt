-- Rows are on shuffle trees.
use Rattle.std.proofs.Common.{◌≡◌, ℕ, List, [], ◌∷◌, refl, sym, ◌∙◌, ap, subst, inl, inr}
use Rattle.modular_sums.specs.Lists.{Mem}
use Rattle.modular_sums.specs.Sums.{scale, AllTerms}
use Rattle.modular_sums.proofs.Sums.{AllTerms-append, AllTerms-scale}
use Rattle.modular_sums.proofs.Images.{AllTerms-imp}
use Rattle.labelled_trees.specs.Trees.{Tree, IsNode}
use Rattle.labelled_trees.specs.Labelled.{IsLabelled}
use Rattle.labelled_trees.specs.Equality.{tree_discrete}
use Rattle.shuffle_insertions.specs.ShuffleTrees.{IsShuffleTree}
use Rattle.shuffle_insertions.specs.Orders.{IsTreeOrder}
use Rattle.shuffle_places.specs.Places.{IsPlace}
use Rattle.shuffle_places.proofs.Sizes.{one_size}
use Rattle.shuffle_bases.specs.Elements.{Element, IsLess, AreMonic, inserted, s_element}
use Rattle.shuffle_normal_forms.proofs.Insertions.{value_valid}
use Rattle.shuffle_reductions.specs.Chains.{StandsIn}
use Rattle.shuffle_reductions.proofs.Standing.{has_all, has_same}
use Rattle.operad_ideals.specs.Presentations.{Relation, arity_of, IsSound}
use Rattle.shuffle_transfer.specs.Orderings.{IsOrdering}
use Rattle.shuffle_transfer.specs.Labels.{symmetric_tree}
use Rattle.shuffle_transfer.specs.Transfer.{relabelled, shuffled}
use Rattle.shuffle_transfer.specs.GroebnerBases.{setting}
use Rattle.shuffle_transfer.proofs.ShuffleFormsFit.{back_labelled}
use Rattle.shuffle_transfer.proofs.Spanning.{all_shuffles}
use Rattle.shuffle_transfer.proofs.TransferLaw.{labelled-relabelled}
use Rattle.action_characters.specs.CycleTypes.{IsCycleType, type_permutation}
use Rattle.counted_runs.specs.Items.{Question, Problem, item_arity, AsksElements, Item, relabelling, two_places, tail_of, question, traced, IsItem}
use Rattle.counted_runs.specs.Rows.{SameSum, IsIdealElement, IsRow}
use Rattle.action_characters.proofs.TypePermutations.{types_are_permutations}
use Rattle.counted_runs.proofs.Numbered.{one_nth, nth_member}

abbrev Sum : Type 0
Sum = List (ℕ × Tree ℕ)

module _ (d : Problem) where
  -- the trees of the sum are shuffle trees of arity n
  abbrev pub OnTrees : ℕ → Sum → Type 0
  OnTrees n e = AllTerms e (IsShuffleTree (item_arity d) n)

  -- a relabelled element
  pub relabelled_trees : (n : ℕ) (e : Sum) → AllTerms e (IsLabelled (arity_of d.presentation) n) → (w : List ℕ) → IsOrdering n w → OnTrees n (shuffled d.presentation (relabelled w e))
  relabelled_trees n e h w o = all_shuffles d.presentation n (relabelled w e) (labelled-relabelled (arity_of d.presentation) n w o e h)

  -- a tree relabelled by the permutation of a cycle type
  pub traced_trees : (n : ℕ) (c : List ℕ) (t : Tree ℕ) → IsCycleType n c → IsShuffleTree (item_arity d) n t
      → OnTrees n (shuffled d.presentation (relabelled (type_permutation c) ((1, symmetric_tree d.presentation.generators t) ∷ [])))
  traced_trees n c t h v = relabelled_trees n ((1, symmetric_tree d.presentation.generators t) ∷ []) (back_labelled d.presentation.generators n t v, tt) (type_permutation c) (types_are_permutations n c h).0

  module _ (order : IsTreeOrder (item_arity d) d.compare) where
    -- a monic element inserted in a shuffle tree
    inserted_trees : (n : ℕ) (g : Element) → IsIdealElement d.presentation d.compare g → (t : Tree ℕ) (set : List ℕ) → IsShuffleTree (item_arity d) n t → IsPlace t set g.lead → OnTrees n (inserted g t set)
    inserted_trees n g h t set v at = value_valid (setting d.presentation d.compare (g ∷ [])) order alone n record { of = g; member = inl refl; tree = t; set = set; valid = v; place = at }
      where
        the_one : (k : Element) → Mem k (g ∷ []) → k ≡ g
        the_one k (inl e) = e
        the_one k (inr m) = absurd m

        alone : AreMonic (setting d.presentation d.compare (g ∷ []))
        alone = record {
          each = λ k m. let e = sym (the_one k m) in
              record {
                lead_valid = subst (λ (x : Element). IsShuffleTree (item_arity d) x.arity x.lead) e h.monic.lead_valid;
                lead_node = subst (λ (x : Element). IsNode x.lead) e h.monic.lead_node;
                tail_valid = subst (λ (x : Element). AllTerms x.tail (λ u. IsShuffleTree (item_arity d) x.arity u × IsLess (setting d.presentation d.compare []) u x.lead)) e h.monic.tail_valid;
              };
          apart = λ k l m o e. the_one k m ∙ sym (the_one l o);
        }

    pub s_element_trees : (n : ℕ) (g h : Element) → IsIdealElement d.presentation d.compare g → IsIdealElement d.presentation d.compare h → (t : Tree ℕ) (first second : List ℕ)
        → IsShuffleTree (item_arity d) n t → IsPlace t first g.lead → IsPlace t second h.lead → OnTrees n (s_element d.presentation.q g h t first second)
    s_element_trees n g h ig ih t first second v at_g at_h = AllTerms-append (inserted g t first) (scale d.presentation.q (inserted h t second)) (IsShuffleTree (item_arity d) n)
        (inserted_trees n g ig t first v at_g)
        (AllTerms-scale d.presentation.q (inserted h t second) (IsShuffleTree (item_arity d) n) (inserted_trees n h ih t second v at_h))

    pub tail_trees : (n : ℕ) (g : Element) → IsIdealElement d.presentation d.compare g → IsShuffleTree (item_arity d) n g.lead → OnTrees n g.tail
    tail_trees n g h v =
        let same = one_size g.arity n g.lead h.monic.lead_valid.shuffle v.shuffle in
        subst (λ k. OnTrees k g.tail) same
        (AllTerms-imp (λ u. IsShuffleTree (item_arity d) g.arity u × IsLess (setting d.presentation d.compare []) u g.lead) (IsShuffleTree (item_arity d) g.arity) g.tail (λ u k. k.0) h.monic.tail_valid)

    -- what stands in the row of an item of arity n is a shuffle tree of this arity
    module _ (sound : IsSound d.presentation) (asks : AsksElements d) where
      abbrev Stands : ℕ → Sum → Type 0
      Stands n row = (t : Tree ℕ) → StandsIn d.presentation.q row t → IsShuffleTree (item_arity d) n t

      by_same : (n : ℕ) (row e : Sum) → SameSum d.presentation row e → OnTrees n e → Stands n row
      by_same n row e same h t stands = has_all tree_discrete d.presentation.q (IsShuffleTree (item_arity d) n) e h t (has_same tree_discrete d.presentation.q row e same t stands)

      pub row_trees : (n : ℕ) (i : Item) (row : Sum) → IsItem d n i → IsRow d i row → Stands n row
      row_trees n (relabelling z k w) row i r =
          let e = one_nth k d.presentation.relations i.0 r.0 i.1 r.1 in
          by_same n row (shuffled d.presentation (relabelled w r.0.terms)) r.2
          (relabelled_trees n r.0.terms (subst (λ m. AllTerms r.0.terms (IsLabelled (arity_of d.presentation) m)) (sym (ap (λ (x : Relation). x.arity) e) ∙ i.2) (sound r.0 (nth_member k d.presentation.relations r.0 r.1))) w i.4)
      row_trees n (two_places z t first second) row i r =
          by_same n row (s_element d.presentation.q r.0 r.1 t first second) r.4.row_is (s_element_trees n r.0 r.1 r.2 r.3 t first second i.0 r.4.first_at r.4.second_at)
      row_trees n (tail_of t) row i r = by_same n row r.0.tail r.3 (tail_trees n r.0 r.1 (subst (IsShuffleTree (item_arity d) n) (sym r.2) i))
      row_trees n (question k) row i r =
          let e = one_nth k d.questions i.0 r.0 i.1 r.1 in
          by_same n row (shuffled d.presentation r.0.terms) r.2
          (all_shuffles d.presentation n r.0.terms (subst (λ m. AllTerms r.0.terms (IsLabelled (arity_of d.presentation) m)) (sym (ap (λ (x : Question). x.arity) e) ∙ i.2) (asks r.0 (nth_member k d.questions r.0 r.1))))
      row_trees n (traced c t) row i r =
          by_same n row (shuffled d.presentation (relabelled (type_permutation c) ((1, symmetric_tree d.presentation.generators t) ∷ []))) r (traced_trees n c t i.1 i.2)
