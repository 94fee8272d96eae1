-- Shuffle forms with counts of turns in place of signs: a form that serves the proofs.
use Rattle.std.proofs.Common.{◌≡◌, ℕ, ◌+◌, ◌*◌, ◌^◌, List, [], ◌∷◌, refl, sym, ap, arith, subst}
use mathlib.Core.Path.{ap₂}
use mathlib.Core.List.{◌++◌}
use Rattle.modular_sums.specs.Residues.{IsCongruent}
use Rattle.modular_sums.specs.Sums.{coef, scale, Same, expand, IsLinearCombination, AllTerms}
use Rattle.modular_sums.proofs.Residues.{congruent_add, congruent_mul}
use Rattle.modular_sums.proofs.Sums.{choose-mul, combination-append, combination-scale}
use Rattle.modular_sums.proofs.Replacements.{sum_over}
use Rattle.modular_sums.proofs.Images.{same_sum}
use Rattle.labelled_trees.specs.Trees.{Tree}
use Rattle.labelled_trees.specs.Equality.{tree_discrete}
use Rattle.labelled_trees.specs.Labelled.{IsLabelled}
use Rattle.operad_ideals.specs.Sorting.{spelled_sign}
use Rattle.operad_ideals.specs.Presentations.{Presentation, residue_of, parts, arity_of}
use Rattle.modular_sums.proofs.Links.{member_zero}
use Rattle.labelled_trees.proofs.Numbered.{labelled_once}
use Rattle.shuffle_transfer.specs.Labels.{label, shuffle_form}
use Rattle.shuffle_transfer.specs.Transfer.{shuffled}
use Rattle.shuffle_transfer.proofs.FormGrafts.{turns}
use Rattle.shuffle_transfer.proofs.Signs.{twist, residue-count, sign-turns}
use Rattle.modular_sums.specs.Lists.{choose}

-- the turns of a tree over a presentation
abbrev pub turns_of : Presentation → Tree ℕ → ℕ
turns_of p t = turns (label p.generators) (twist (parts p) (label p.generators)) t

module _ (p : Presentation) where
  -- the shuffle form of an element, with powers of minus 1
  abbrev pub turned : List (ℕ × Tree ℕ) → List (ℕ × Tree ℕ)
  turned [] = []
  turned (x ∷ e) = (x.0 * p.q ^ turns_of p x.1, shuffle_form p.generators x.1) ∷ turned e

  pub sign_alike : (n : ℕ) (t : Tree ℕ) → IsLabelled (arity_of p) n t → IsCongruent p.q (p.q ^ turns_of p t) (residue_of p.q (spelled_sign (parts p) t))
  sign_alike n t h = subst (λ s. IsCongruent p.q (p.q ^ turns_of p t) (residue_of p.q s)) (sign-turns (parts p) (label p.generators) t h.fits (labelled_once h)) (residue-count p.q (turns_of p t))

  congruent_choose : {C : Type 0} (z : Dec C) (u v : ℕ) → IsCongruent p.q u v → IsCongruent p.q (choose z u 0) (choose z v 0)
  congruent_choose (yes _) u v e = e
  congruent_choose (no _) u v e = refl

  -- a sum of labelled trees has one shuffle form, whichever way it is written
  pub shuffled-turned : (n : ℕ) (e : List (ℕ × Tree ℕ)) → AllTerms e (IsLabelled (arity_of p) n) → Same tree_discrete p.q (shuffled p e) (turned e)
  unfolding coef
  shuffled-turned n [] h t = refl
  shuffled-turned n (x ∷ e) h t =
      congruent_add p.q (choose (tree_discrete (shuffle_form p.generators x.1) t) (x.0 * residue_of p.q (spelled_sign (parts p) x.1)) 0) (choose (tree_discrete (shuffle_form p.generators x.1) t) (x.0 * p.q ^ turns_of p x.1) 0)
      (coef tree_discrete (shuffled p e) t) (coef tree_discrete (turned e) t)
      (congruent_choose (tree_discrete (shuffle_form p.generators x.1) t) (x.0 * residue_of p.q (spelled_sign (parts p) x.1)) (x.0 * p.q ^ turns_of p x.1)
      (congruent_mul p.q x.0 x.0 (residue_of p.q (spelled_sign (parts p) x.1)) (p.q ^ turns_of p x.1) refl (sym (sign_alike n x.1 h.0))))
      (shuffled-turned n e h.1 t)

  pub turned-append : (e f : List (ℕ × Tree ℕ)) → turned (e ++ f) ≡ turned e ++ turned f
  turned-append [] f = refl
  turned-append (x ∷ e) f = ap (λ l. (x.0 * p.q ^ turns_of p x.1, shuffle_form p.generators x.1) ∷ l) (turned-append e f)

  pub turned-scale : (c : ℕ) (e : List (ℕ × Tree ℕ)) → turned (scale c e) ≡ scale c (turned e)
  unfolding scale
  turned-scale c [] = refl
  turned-scale c (x ∷ e) =
      let a : c * x.0 * p.q ^ turns_of p x.1 ≡ c * (x.0 * p.q ^ turns_of p x.1) = omega arith in
      ap₂ (λ k l. (k, shuffle_form p.generators x.1) ∷ l) a (turned-scale c e)

  coef-turned : (e : List (ℕ × Tree ℕ)) (t : Tree ℕ) → coef tree_discrete (turned e) t ≡ sum_over e (λ x. choose (tree_discrete (shuffle_form p.generators x) t) (p.q ^ turns_of p x) 0)
  unfolding coef
  coef-turned [] t = refl
  coef-turned (x ∷ e) t = ap₂ (λ a b. a + b) (choose-mul (tree_discrete (shuffle_form p.generators x.1) t) x.0 (p.q ^ turns_of p x.1)) (coef-turned e t)

  -- the shuffle form depends on the coefficients alone
  pub Same-turned : (e f : List (ℕ × Tree ℕ)) → Same tree_discrete p.q e f → Same tree_discrete p.q (turned e) (turned f)
  Same-turned e f h t = rw (coef-turned e t, coef-turned f t) (same_sum (Tree ℕ) tree_discrete p.q e f (λ x. choose (tree_discrete (shuffle_form p.generators x) t) (p.q ^ turns_of p x) 0) h)

  -- where the shuffle forms of instances are sums of others, so is that of a sum of instances
  pub member_turned : {I J : Type 0} (value : I → List (ℕ × Tree ℕ)) (other : J → List (ℕ × Tree ℕ)) → ((i : I) → IsLinearCombination tree_discrete other p.q (turned (value i)))
      → (l : List (ℕ × I)) → IsLinearCombination tree_discrete other p.q (turned (expand value l))
  unfolding expand
  member_turned value other h [] = member_zero tree_discrete other p.q
  member_turned value other h (x ∷ l) =
      rw (turned-append (scale x.0 (value x.1)) (expand value l), turned-scale x.0 (value x.1))
      (combination-append tree_discrete other p.q {e = scale x.0 (turned (value x.1))} {f = turned (expand value l)}
      (combination-scale tree_discrete other p.q x.0 {e = turned (value x.1)} (h x.1)) (member_turned value other h l))
