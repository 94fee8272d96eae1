-- The listing of a certified list of elements has the normal trees.
use Rattle.std.proofs.Common.{◌≡◌, ◌↔◌, ℕ, ◌<◌, ◌≤◌, List, [], ◌∷◌, map, refl, sym, ◌∙◌, ap, subst, inl, inr}
use Rattle.modular_sums.specs.Residues.{IsCongruent}
use Rattle.modular_sums.specs.Lists.{Mem, Distinct}
use Rattle.modular_sums.specs.Sums.{coef, moved, AllTerms}
use Rattle.modular_sums.proofs.Lists.{mem_map, mem_of_map}
use Rattle.labelled_trees.specs.Trees.{Tree}
use Rattle.labelled_trees.specs.Equality.{tree_discrete}
use Rattle.labelled_trees.specs.Labelled.{IsLabelled}
use Rattle.shuffle_insertions.specs.ShuffleTrees.{IsShuffleTree}
use Rattle.shuffle_insertions.specs.Orders.{IsTreeOrder}
use Rattle.shuffle_insertions.proofs.Laws.{orders}
use Rattle.shuffle_bases.specs.Reductions.{SElementsReduce}
use Rattle.shuffle_normal_forms.specs.FreeTrees.{IsFree, IsFreeTree, free_trees}
use Rattle.shuffle_normal_forms.specs.NormalForms.{InSpan, LeadsNone}
use Rattle.shuffle_normal_forms.proofs.Laws.{all_listed, lead_none}
use Rattle.operad_ideals.specs.Spelling.{IsSorted}
use Rattle.operad_ideals.specs.Parts.{Part}
use Rattle.operad_ideals.specs.Presentations.{Presentation, parts, arity_of}
use Rattle.operad_ideals.specs.Ideals.{InIdeal}
use Rattle.operad_ideals.proofs.Spellings.{sorted_spelling, is_sorted_spelled}
use Rattle.labelled_trees.proofs.Numbered.{labelled_once}
use Rattle.shuffle_transfer.specs.Labels.{labels, gen, inputs_of, shuffle_form, symmetric_tree}
use Rattle.shuffle_transfer.specs.Transfer.{shuffled}
use Rattle.shuffle_transfer.specs.NormalTrees.{OneOrder, by_path, by_pathshort, by_leafpath, by_weightpath, compare, normal_list, IsLead, IsNormalTree}
use Rattle.shuffle_transfer.proofs.Labels.{are_labels}
use Rattle.shuffle_transfer.proofs.ShuffleFormsFit.{forth, back_law, spelling}
use Rattle.shuffle_transfer.proofs.Given.{Given, setting_of, ideal_span, span_ideal}
use Rattle.shuffle_transfer.proofs.Independent.{Normal}
use Rattle.shuffle_transfer.proofs.Spanning.{normal_tree, all_shuffles, all_labelled, all_forms}

pub order_of : (generators : List (List Part)) (order : OneOrder) → IsTreeOrder (inputs_of generators) (compare generators order)
order_of generators by_path = (orders (inputs_of generators) (λ l. 0)).0
order_of generators by_pathshort = (orders (inputs_of generators) (λ l. 0)).1
order_of generators by_leafpath = (orders (inputs_of generators) (λ l. 0)).2
order_of generators (by_weightpath weights) = (orders (inputs_of generators) (λ l. weights (gen generators l))).3

pub distinct_image : {A B : Type 0} (f : A → B) (g : B → A) (P : A → Type 0) → ((x : A) → P x → g (f x) ≡ x) → (l : List A) → ((x : A) → Mem x l → P x) → Distinct l → Distinct (map f l)
distinct_image f g P back [] h d = tt
distinct_image f g P back (x ∷ l) h d = (
  λ m. let k = mem_of_map f (f x) l m in
      let e : x ≡ k.0 = sym (back x (h x (inl refl))) ∙ ap g k.2 ∙ back k.0 (h k.0 (inr k.1)) in
      d.0 (subst (λ y. Mem y l) (sym e) k.1),
  distinct_image f g P back l (λ y m. h y (inr m)) d.1,
)

-- ---- the listing

module _ (c : Given) (n : ℕ) (le : n ≤ c.most) where
  abbrev free : List (Tree ℕ)
  free = free_trees (labels c.presentation.generators) (setting_of c) n

  free_listed : Distinct free × ((t : Tree ℕ) → Mem t free ↔ IsFreeTree (setting_of c) n t)
  free_listed = all_listed (labels c.presentation.generators) (setting_of c) (are_labels c.presentation c.wide) c.certified.monic n

  pub listed_normal : (t : Tree ℕ) → Mem t (normal_list c.presentation.generators c.elements n) → Normal c n le t
  listed_normal t m =
      let k = mem_of_map (symmetric_tree c.presentation.generators) t free m in
      let f = (free_listed.1 k.0).0 k.1 in
      subst (Normal c n le) (sym k.2) (normal_tree c n le k.0 f)

  pub normal_listed : (t : Tree ℕ) → Normal c n le t → Mem t (normal_list c.presentation.generators c.elements n)
  normal_listed t h = subst (λ x. Mem x (normal_list c.presentation.generators c.elements n)) ((spelling c.presentation.generators n t h.labelled).0 ∙ h.sorted)
      (mem_map (symmetric_tree c.presentation.generators) (shuffle_form c.presentation.generators t) free
      ((free_listed.1 (shuffle_form c.presentation.generators t)).1 (record { valid = forth c.presentation.generators n t h.labelled; free = h.free })))

  pub listed_once : Distinct (normal_list c.presentation.generators c.elements n)
  listed_once = distinct_image (symmetric_tree c.presentation.generators) (shuffle_form c.presentation.generators) (IsShuffleTree (inputs_of c.presentation.generators) n) (λ s h. (back_law c.presentation.generators n s h).1)
      free (λ s m. ((free_listed.1 s).0 m).valid) free_listed.0

-- ---- normal trees lead no element of the ideal, and no other sorted tree does so

module _ (c : Given) (n : ℕ) (le : n ≤ c.most) where
  abbrev p : Presentation
  p = c.presentation

  abbrev F : Tree ℕ → Tree ℕ
  F = shuffle_form c.presentation.generators

  abbrev S : Tree ℕ → Tree ℕ
  S = symmetric_tree c.presentation.generators

  lead_law : ((N m : ℕ) → SElementsReduce (setting_of c) N → m ≤ N → (t : Tree ℕ) → IsShuffleTree (inputs_of c.presentation.generators) m t → IsFree (setting_of c) t → LeadsNone (setting_of c) m t)
      × (0 < c.presentation.q → (m : ℕ) (t : Tree ℕ) → IsShuffleTree (inputs_of c.presentation.generators) m t → LeadsNone (setting_of c) m t → IsFree (setting_of c) t)
  lead_law = lead_none (labels p.generators) (setting_of c) (are_labels p c.wide) c.order c.certified.monic

  no_lead : (t : Tree ℕ) → Normal c n le t → (e : List (ℕ × Tree ℕ)) → AllTerms e (IsLabelled (arity_of c.presentation) n) → InIdeal c.presentation n e → IsLead c.presentation c.compare n e t → ⊥
  no_lead t h e v m lead =
      lead_law.0 c.most n c.certified.s_elements le (F t) (forth p.generators n t h.labelled) h.free (shuffled p e) (all_shuffles p n e v) (ideal_span c n le e v m) (record { there = lead.there; above = lead.above })

  -- what leads a sum in the span leads an element of the ideal
  leads_none : (t : Tree ℕ) → IsNormalTree c.presentation c.compare n t → LeadsNone (setting_of c) n (F t)
  leads_none t h e v m lead =
      let forms = all_forms p n e v in
      h.leads_none (moved S e) (all_labelled p n e v) (span_ideal c n le (moved S e) (all_labelled p n e v) (subst (InSpan (setting_of c) n) (sym forms) m))
      (record {
        labelled = h.labelled;
        sorted = h.sorted;
        there = subst (λ l. IsCongruent p.q (coef tree_discrete l (F t)) 0 → ⊥) (sym forms) lead.there;
        above = λ s w less. subst (λ l. IsCongruent p.q (coef tree_discrete l s) 0) (sym forms) (lead.above s w less);
      })

  pub of_normal : (t : Tree ℕ) → Normal c n le t → IsNormalTree c.presentation c.compare n t
  of_normal t h = record {
    labelled = h.labelled;
    sorted = subst (IsSorted (parts c.presentation)) h.sorted (is_sorted_spelled (parts c.presentation) t h.labelled.fits (labelled_once h.labelled));
    leads_none = λ e v m lead. no_lead t h e v m lead;
  }

  pub to_normal : (t : Tree ℕ) → 0 < c.presentation.q → IsNormalTree c.presentation c.compare n t → Normal c n le t
  to_normal t prime h = record {
    labelled = h.labelled;
    sorted = (sorted_spelling (parts c.presentation) t h.sorted).0;
    free = lead_law.1 prime n (F t) (forth p.generators n t h.labelled) (leads_none t h);
  }
