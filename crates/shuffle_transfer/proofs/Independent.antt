-- Normal trees are independent modulo the ideal.
use Rattle.std.proofs.Common.{◌≡◌, ℕ, ◌*◌, ◌≤◌, List, [], ◌∷◌, refl, sym, ◌∙◌, ap, arith, subst}
use mathlib.Core.Path.{ap₂}
use Rattle.modular_sums.specs.Sums.{Same, moved, AllTerms}
use Rattle.modular_sums.proofs.Images.{Same-moved, AllTerms-imp}
use Rattle.labelled_trees.specs.Trees.{Tree}
use Rattle.labelled_trees.specs.Equality.{tree_discrete}
use Rattle.labelled_trees.specs.Labelled.{IsLabelled}
use Rattle.shuffle_normal_forms.specs.FreeTrees.{IsFree, IsFreeTree}
use Rattle.shuffle_normal_forms.proofs.Laws.{independent as free_independent}
use Rattle.operad_ideals.specs.Parts.{plus}
use Rattle.operad_ideals.specs.Sorting.{spelled, spelled_sign}
use Rattle.operad_ideals.specs.Presentations.{residue_of, parts, arity_of}
use Rattle.operad_ideals.specs.Ideals.{InIdeal}
use Rattle.shuffle_transfer.specs.Labels.{labels, shuffle_form, symmetric_tree}
use Rattle.shuffle_transfer.specs.Transfer.{shuffled}
use Rattle.shuffle_transfer.proofs.Labels.{are_labels}
use Rattle.shuffle_transfer.proofs.ShuffleFormsFit.{forth, back_law, spelling}
use Rattle.shuffle_transfer.proofs.Given.{Given, setting_of, ideal_span}

-- a sorted tree whose shuffle form no leading tree divides
pub record Normal (c : Given) (n : ℕ) (le : n ≤ c.most) (t : Tree ℕ) : Type 0 where
  pub labelled : IsLabelled (arity_of c.presentation) n t
  pub sorted : spelled (parts c.presentation) t ≡ t
  pub free : IsFree (setting_of c) (shuffle_form c.presentation.generators t)

module _ (c : Given) (n : ℕ) (le : n ≤ c.most) where
  abbrev F : Tree ℕ → Tree ℕ
  F = shuffle_form c.presentation.generators

  pub normal_is : (t : Tree ℕ) → Normal c n le t → (symmetric_tree c.presentation.generators (shuffle_form c.presentation.generators t) ≡ t) × (spelled_sign (parts c.presentation) t ≡ plus)
  normal_is t h =
      let e : symmetric_tree c.presentation.generators (F t) ≡ t = (spelling c.presentation.generators n t h.labelled).0 ∙ h.sorted in
      (e, ap (spelled_sign (parts c.presentation)) (sym e) ∙ (back_law c.presentation.generators n (F t) (forth c.presentation.generators n t h.labelled)).2)

  normal_back : (e : List (ℕ × Tree ℕ)) → AllTerms e (Normal c n le) → moved (symmetric_tree c.presentation.generators) (shuffled c.presentation e) ≡ e
  normal_back [] h = refl
  normal_back (x ∷ e) h =
      let k = normal_is x.1 h.0 in
      let o : x.0 * 1 ≡ x.0 = omega arith in
      ap₂ (λ y l. y ∷ l) (ap₂ (λ a y. (a, y)) (ap (λ s. x.0 * residue_of c.presentation.q s) k.1 ∙ o) k.0) (normal_back e h.1)

  -- the shuffle form of an element on normal trees is on free trees
  free_forms : (e : List (ℕ × Tree ℕ)) → AllTerms e (Normal c n le) → AllTerms (shuffled c.presentation e) (IsFreeTree (setting_of c) n)
  free_forms [] h = tt
  free_forms (x ∷ e) h = (record { valid = forth c.presentation.generators n x.1 h.0.labelled; free = h.0.free }, free_forms e h.1)

  -- an element of the ideal on normal trees is zero
  pub independent : (e : List (ℕ × Tree ℕ)) → AllTerms e (Normal c n le) → InIdeal c.presentation n e → Same tree_discrete c.presentation.q e []
  independent e h m =
      let span = ideal_span c n le e (AllTerms-imp (Normal c n le) (IsLabelled (arity_of c.presentation) n) e (λ t g. g.labelled) h) m in
      let zero = free_independent (labels c.presentation.generators) (setting_of c) (are_labels c.presentation c.wide) c.order c.certified.monic c.most n c.certified.s_elements le
      (shuffled c.presentation e) (free_forms e h) span in
      subst (λ l. Same tree_discrete c.presentation.q l []) (normal_back e h) (Same-moved tree_discrete tree_discrete c.presentation.q (symmetric_tree c.presentation.generators) (shuffled c.presentation e) [] zero)
