-- From complete elements to the listing, the rules and the normal forms.
use Rattle.std.proofs.Common.{◌≡◌, ◌↔◌, ℕ, ◌-◌, ◌≤◌, List, [], ◌∷◌, map, refl, sym, ◌∙◌, ap, subst}
use Rattle.std.specs.List.{AllByRecursion}
use Rattle.std.specs.declared.cmp.Ordering.TheVariants.{Less}
use Rattle.modular_sums.specs.Lists.{Mem}
use Rattle.modular_sums.specs.Sums.{scale, moved, Same, AllTerms}
use Rattle.modular_sums.proofs.Images.{Same-moved}
use Rattle.modular_sums.proofs.Lists.{mem_map, mem_of_map}
use Rattle.labelled_trees.specs.Trees.{Tree}
use Rattle.labelled_trees.specs.Equality.{tree_discrete}
use Rattle.shuffle_bases.specs.Elements.{Element, Insertion}
use Rattle.shuffle_reductions.specs.Chains.{IsChain, IsFinished}
use Rattle.shuffle_reductions.specs.Extensions.{Extends}
use Rattle.shuffle_reductions.proofs.Laws.{chains_join}
use Rattle.shuffle_reductions.proofs.Standing.{has_same, trim, trim_same, trim_no_zeros}
use Rattle.shuffle_transfer.specs.Labels.{symmetric_tree}
use Rattle.shuffle_transfer.specs.Transfer.{shuffled}
use Rattle.shuffle_transfer.specs.GroebnerBases.{setting}
use Rattle.shuffle_transfer.specs.NormalTrees.{normal_list, IsNormalTree, IsNormalSum}
use Rattle.shuffle_completion.specs.Completion.{IsCompletedThrough}
use Rattle.shuffle_completion.specs.ReducedBases.{IsMinimal, IsReducedBasis, IsReducedElement}
use Rattle.shuffle_completion.proofs.Laws.{complete_is_reduced, listing_is_normal, forms_by_chains}
use Rattle.shuffle_completion.proofs.Passing.{sorted_back}
use Rattle.shuffle_completion.specs.Existence.{IsOverField}
use Rattle.symmetric_trees.specs.Generators.{parts_at}
use Rattle.operad_ideals.specs.SpellingOrder.{order}
use Rattle.symmetric_trees.specs.Trees.{IsLabelled}
use Rattle.operad_ideals.specs.Collected.{IsReduced}
use Rattle.operad_ideals.specs.Pairs.{Pairs}
use Rattle.operad_answers.specs.OrderedPresentations.{OrderedPresentation, presentation, comparison, IsWellFormed}
use Rattle.operad_answers.specs.Parts.{ListsInOrder}
use Rattle.operad_answers.specs.Texts.{Sum, IsForm, IsPrintedRule}
use Rattle.operad_answers.specs.Laws.{ListingLaw, CompleteElementsAnswer}
use Rattle.operad_ideals.proofs.TreeLists.{Ascending, all_members}
use Rattle.operad_answers.proofs.Forms.{form_of_same}
use Rattle.operad_answers.proofs.WellFormed.{well_formed_over_field, order_in}

abbrev Rule : Type 0
Rule = Tree ℕ × Sum

ruled_before : (t : Tree ℕ) (l : List Rule) → AllByRecursion (λ s. order t s.0 ≡ Less) l → AllByRecursion (λ u. order t u ≡ Less) (map (λ r. r.0) l)
ruled_before t [] h = tt
ruled_before t (r ∷ l) h = (h.0, ruled_before t l h.1)

ruled_ascending : (l : List Rule) → Pairs (λ r s. order r.0 s.0 ≡ Less) l → Ascending (map (λ r. r.0) l)
ruled_ascending [] h = tt
ruled_ascending (r ∷ l) h = (ruled_before r.0 l h.0, ruled_ascending l h.1)

module _ (o : OrderedPresentation) (well_formed : IsWellFormed o) (elements : List Element) (N : ℕ) (complete : IsCompletedThrough (presentation o) (comparison o) elements N) (n : ℕ) (le : n ≤ N) where
  field : IsOverField (presentation o)
  field = well_formed_over_field o well_formed

  abbrev S : Tree ℕ → Tree ℕ
  S = symmetric_tree (presentation o).generators

  abbrev q : ℕ
  q = o.field - 1

  basis : IsReducedBasis (presentation o) (comparison o) elements N
  basis = complete_is_reduced (presentation o) field.sound field.wide field.not_zero (comparison o) (order_in o) elements N complete

  listed : (l : List (Tree ℕ)) → Pairs (λ t u. order t u ≡ Less) l → ((t : Tree ℕ) → Mem t l ↔ Mem t (normal_list (presentation o).generators elements n)) → ListsInOrder (IsNormalTree (presentation o) (comparison o) n) l
  listed l a same = record {
    ascending = a;
    all = λ t. (λ m. (law t).0 ((same t).0 m), λ k. (same t).1 ((law t).1 k));
  }
    where
      law : (t : Tree ℕ) → Mem t (normal_list (presentation o).generators elements n) ↔ IsNormalTree (presentation o) (comparison o) n t
      law = (listing_is_normal (presentation o) field.sound field.wide field.proper (comparison o) (order_in o) elements N basis n le).1

  -- ---- rules

  module _ (two : 2 ≤ n) (rules : List Rule)
      (source : (r : Rule) → Mem r rules → (g : Element) × Mem g elements × (g.arity ≡ n) × IsPrintedRule o g r)
      (rule : (g : Element) → Mem g elements → g.arity ≡ n → (r : Rule) × Mem r rules × IsPrintedRule o g r) where
    minimal_rule : (r : Rule) → Mem r rules → IsMinimal (presentation o) (comparison o) n r.0
    minimal_rule r m =
        let s = source r m in
        subst (IsMinimal (presentation o) (comparison o) n) (sym s.3.tree_is) (subst (λ k. IsMinimal (presentation o) (comparison o) k (S (s.0).lead)) s.2 (basis.each s.0 s.1).2.minimal)

    has_rule : (t : Tree ℕ) → IsMinimal (presentation o) (comparison o) n t → Mem t (map (λ r. r.0) rules)
    has_rule t k =
        let g = basis.all n two le t k in
        let r = rule g.0 g.1 g.2 in
        let same : (r.0).0 ≡ t = r.2.tree_is ∙ ap S g.3 ∙ sorted_back (presentation o) n t k.leads.leads.labelled k.leads.leads.sorted in
        subst (λ u. Mem u (map (λ (r : Rule). r.0) rules)) same (mem_map (λ (r : Rule). r.0) r.0 rules r.1)

    form_of_rule : (r : Rule) → Mem r rules → IsForm o n ((1, r.0) ∷ []) r.1
    form_of_rule r m =
        let s = source r m in
        let e : IsReducedElement (presentation o) (comparison o) s.0 = (basis.each s.0 s.1).2 in
        let f : IsNormalSum (presentation o) (comparison o) n ((1, r.0) ∷ []) (scale q (moved S (s.0).tail))
        = subst (λ t. IsNormalSum (presentation o) (comparison o) n ((1, t) ∷ []) (scale q (moved S (s.0).tail))) (sym s.3.tree_is)
        (subst (λ k. IsNormalSum (presentation o) (comparison o) k ((1, S (s.0).lead) ∷ []) (scale q (moved S (s.0).tail))) s.2 e.normal_form) in
        form_of_same o well_formed n ((1, r.0) ∷ []) (scale q (moved S (s.0).tail)) r.1 f s.3.tail_is s.3.reduced

    ruled : Pairs (λ r s. order r.0 s.0 ≡ Less) rules → ListsInOrder (IsMinimal (presentation o) (comparison o) n) (map (λ r. r.0) rules) × AllByRecursion (λ r. IsForm o n ((1, r.0) ∷ []) r.1) rules
    ruled a = (
      record { ascending = ruled_ascending rules a; all = λ t. (λ m. minimal t (mem_of_map (λ (r : Rule). r.0) t rules m), λ k. has_rule t k) },
      all_members (λ r. IsForm o n ((1, r.0) ∷ []) r.1) rules form_of_rule,
    )
      where
        minimal : (t : Tree ℕ) → (r : Rule) × Mem r rules × (t ≡ r.0) → IsMinimal (presentation o) (comparison o) n t
        minimal t k = subst (IsMinimal (presentation o) (comparison o) n) (sym k.2) (minimal_rule k.0 k.1)

  -- ---- normal forms

  reduced : (e : Sum) → AllTerms e (IsLabelled o.generators n) → (more : List Element) → Extends (setting (presentation o) (comparison o) elements) more
      → (uses : List (ℕ × Insertion (setting (presentation o) (comparison o) more) n)) (f : Sum)
      → IsChain (setting (presentation o) (comparison o) more) n (shuffled (presentation o) e) uses f → IsFinished (setting (presentation o) (comparison o) more) f
      → (h : Sum) → IsReduced o.field (parts_at o.generators) h → Same tree_discrete q h (moved S f) → IsForm o n e h
  reduced e v more ext uses f chain finished h r same =
      let s = setting (presentation o) (comparison o) more in
      let g = trim tree_discrete q f in
      let fg : Same tree_discrete q f g = trim_same tree_discrete q f in
      let chain2 = (chains_join s n).0 (shuffled (presentation o) e) (shuffled (presentation o) e) uses f g (λ t. refl) fg chain in
      let form = forms_by_chains (presentation o) field.sound field.wide (comparison o) (order_in o) elements N complete.certified more ext n le e v uses g chain2
      (λ t k. finished t (has_same tree_discrete q g f (λ u. sym (fg u)) t k)) (trim_no_zeros tree_discrete q f) in
      form_of_same o well_formed n e (moved S g) h form (λ t. same t ∙ Same-moved tree_discrete tree_discrete q S f g fg t) r

  pub listing_law : ListingLaw o elements n
  listing_law = record { listed = listed; ruled = λ two rules a source rule. ruled two rules source rule a; reduced = reduced }

pub complete_elements_answer : CompleteElementsAnswer
complete_elements_answer o well_formed elements N complete n le = listing_law o well_formed elements N complete n le
