-- Shuffle forms of elements, of their sorted spellings and of their collected forms.
use Rattle.std.proofs.Common.{◌≡◌, ℕ, suc, ◌*◌, ◌-◌, ◌%◌, List, [], ◌∷◌, refl, sym, ap, ap₂, ◌∙◌, subst, arith}
use Rattle.std.specs.List.{AllByRecursion}
use Rattle.std.proofs.lemmas.List.Elements.{recursion_from_All}
use Rattle.modular_sums.specs.Sums.{Same, moved, AllTerms, coef}
use Rattle.modular_sums.proofs.Images.{Same-moved}
use Rattle.labelled_trees.specs.Trees.{Tree}
use Rattle.labelled_trees.specs.Equality.{tree_discrete}
use Rattle.labelled_trees.specs.Labelled.{IsLabelled}
use Rattle.operad_ideals.specs.Presentations.{Presentation, residue_of, parts, arity_of}
use Rattle.operad_ideals.specs.Sorting.{spelled_sign}
use Rattle.operad_ideals.specs.SpelledSums.{spelled_sum}
use Rattle.operad_ideals.specs.Spelling.{IsSorted}
use Rattle.operad_ideals.specs.Collected.{IsCollected}
use Rattle.operad_ideals.proofs.Spellings.{sorted_spelling}
use Rattle.shuffle_transfer.specs.Labels.{shuffle_form, symmetric_tree}
use Rattle.shuffle_transfer.specs.Transfer.{shuffled}
use Rattle.shuffle_transfer.proofs.ShuffleFormsFit.{spelling}

module _ (p : Presentation) where
  -- the shuffle form of an element is that of its sorted spellings
  pub spelled_forms : (n : ℕ) (e : List (ℕ × Tree ℕ)) → AllTerms e (IsLabelled (arity_of p) n) → shuffled p e ≡ moved (shuffle_form p.generators) (spelled_sum p.q (parts p) e)
  spelled_forms n [] h = refl
  spelled_forms n (x ∷ e) h = ap₂ (λ (y : Tree ℕ) (l : List (ℕ × Tree ℕ)). (x.0 * residue_of p.q (spelled_sign (parts p) x.1), y) ∷ l) (sym (spelling p.generators n x.1 h.0).1) (spelled_forms n e h.1)

  -- and passed back it is the sum of sorted spellings
  pub back_spelled : (n : ℕ) (e : List (ℕ × Tree ℕ)) → AllTerms e (IsLabelled (arity_of p) n) → moved (symmetric_tree p.generators) (shuffled p e) ≡ spelled_sum p.q (parts p) e
  back_spelled n [] h = refl
  back_spelled n (x ∷ e) h =
      ap₂ (λ (y : Tree ℕ) (l : List (ℕ × Tree ℕ)). (x.0 * residue_of p.q (spelled_sign (parts p) x.1), y) ∷ l) (spelling p.generators n x.1 h.0).0 (back_spelled n e h.1)

  -- sorted trees keep their signs
  pub sorted_forms : (f : List (ℕ × Tree ℕ)) → AllByRecursion (λ (x : ℕ × Tree ℕ). IsSorted (parts p) x.1) f → shuffled p f ≡ moved (shuffle_form p.generators) f
  sorted_forms [] h = refl
  sorted_forms (x ∷ f) h =
      let one : x.0 * residue_of p.q (spelled_sign (parts p) x.1) ≡ x.0 = ap (λ s. x.0 * residue_of p.q s) (sorted_spelling (parts p) x.1 h.0).1 ∙ omega arith in
      ap₂ (λ (c : ℕ) (l : List (ℕ × Tree ℕ)). (c, shuffle_form p.generators x.1) ∷ l) one (sorted_forms f h.1)

  -- an element and its collected form have the same shuffle form
  pub collected_same : (q n : ℕ) (e f : List (ℕ × Tree ℕ)) → p.q ≡ q - 1 → AllTerms e (IsLabelled (arity_of p) n) → IsCollected q (parts p) e f → Same tree_discrete p.q (shuffled p f) (shuffled p e)
  collected_same q n e f z h c =
      let sorted = recursion_from_All (λ (x : ℕ × Tree ℕ). IsSorted (parts p) x.1) f c.reduced.sorted in
      let same : Same tree_discrete p.q f (spelled_sum p.q (parts p) e) = subst (λ m. Same tree_discrete m f (spelled_sum m (parts p) e)) (sym z) c.same in
      λ t. ap (λ l. coef tree_discrete l t % suc p.q) (sorted_forms f sorted)
      ∙ Same-moved tree_discrete tree_discrete p.q (shuffle_form p.generators) f (spelled_sum p.q (parts p) e) same t
      ∙ ap (λ l. coef tree_discrete l t % suc p.q) (sym (spelled_forms n e h))
