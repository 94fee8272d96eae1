-- The ideal as the span of its instances, combinations as forms, and permutations as linear maps that keep the span.
use Rattle.std.proofs.Common.{◌≡◌, ℕ, ◌*◌, List, [], ◌∷◌, refl, sym, arith, subst}
use Rattle.std.specs.Prelude.{flat_map}
use mathlib.Core.Path.{ap₂}
use mathlib.Core.List.{◌++◌}
use Rattle.modular_sums.specs.Sums.{scale, expand, IsLinearCombination}
use Rattle.modular_sums.proofs.Sums.{combination-append, combination-same}
use Rattle.modular_sums.proofs.Links.{member_zero, member_one}
use Rattle.labelled_trees.specs.Trees.{Tree}
use Rattle.labelled_trees.specs.Equality.{tree_discrete}
use Rattle.operad_ideals.specs.Presentations.{Presentation}
use Rattle.operad_ideals.specs.Ideals.{Instance, element, InIdeal}
use Rattle.operad_ideals.proofs.Ideals.{ideal_zero, ideal_one, ideal-append, ideal-scale, ideal-same}
use Rattle.shuffle_transfer.specs.Orderings.{IsOrdering}
use Rattle.shuffle_transfer.specs.NormalTrees.{IsIndependent, IsCombination}
use Rattle.shuffle_transfer.specs.Transfer.{relabelled}
use Rattle.action_characters.specs.ModularTraces.{KeepsSpans, AreIndependent, IsFormOn}
use Rattle.action_characters.specs.Actions.{acted}
use Rattle.shuffle_transfer.proofs.RelabelledIdeals.{ideal_is_relabelled}

module _ (p : Presentation) (n : ℕ) where
  abbrev pub InSpan : List (ℕ × Tree ℕ) → Type 0
  InSpan e = IsLinearCombination tree_discrete (element p n) p.q e

  span_elements : (l : List (Instance p n)) → InSpan (flat_map (element p n) l)
  span_elements [] = member_zero tree_discrete (element p n) p.q
  span_elements (i ∷ l) = combination-append tree_discrete (element p n) p.q {e = element p n i} {f = flat_map (element p n) l} (member_one tree_discrete (element p n) p.q i) (span_elements l)

  pub in_span : (e : List (ℕ × Tree ℕ)) → InIdeal p n e → InSpan e
  in_span e h = combination-same tree_discrete (element p n) p.q {e = e} {f = flat_map (element p n) h.instances} h.adds_up (span_elements h.instances)

  ideal_elements : (l : List (ℕ × Instance p n)) → InIdeal p n (expand (element p n) l)
  unfolding expand
  ideal_elements [] = ideal_zero p n
  ideal_elements (x ∷ l) = ideal-append p n (scale x.0 (element p n x.1)) (expand (element p n) l) (ideal-scale p n x.0 (element p n x.1) (ideal_one p n x.1)) (ideal_elements l)

  pub in_ideal : (e : List (ℕ × Tree ℕ)) → InSpan e → InIdeal p n e
  in_ideal e m = ideal-same p n e (expand (element p n) m.uses) m.adds_up (ideal_elements m.uses)

  pub free_list : (l : List (Tree ℕ)) → IsIndependent p n l → AreIndependent tree_discrete (element p n) p.q l
  free_list l h = record { distinct = h.distinct; zero = λ e k m. h.zero e k (in_ideal e m) }

  pub as_form : (l : List (Tree ℕ)) (e f : List (ℕ × Tree ℕ)) → IsCombination p n l e f → IsFormOn tree_discrete (element p n) p.q l e f
  as_form l e f h = record { on_list = h.on_list; rest = in_span (e ++ scale p.q f) h.rest }

  pub as_combination : (l : List (Tree ℕ)) (e f : List (ℕ × Tree ℕ)) → IsFormOn tree_discrete (element p n) p.q l e f → IsCombination p n l e f
  as_combination l e f h = record { on_list = h.on_list; rest = in_ideal (e ++ scale p.q f) h.rest }

  -- ---- a permutation as a linear map

  abbrev pub image : List ℕ → Tree ℕ → List (ℕ × Tree ℕ)
  image w t = (1, acted w t) ∷ []

  pub expand-image : (w : List ℕ) (e : List (ℕ × Tree ℕ)) → expand (image w) e ≡ relabelled w e
  unfolding expand scale
  expand-image w [] = refl
  expand-image w (x ∷ e) = let k : x.0 * 1 ≡ x.0 = omega arith in ap₂ (λ c l. (c, acted w x.1) ∷ l) k (expand-image w e)

  pub keeps : (w : List ℕ) → IsOrdering n w → KeepsSpans tree_discrete p.q (element p n) (element p n) (image w)
  keeps w o i = subst InSpan (sym (expand-image w (element p n i))) (in_span (relabelled w (element p n i)) (ideal_is_relabelled p n w o (element p n i) (ideal_one p n i)))
