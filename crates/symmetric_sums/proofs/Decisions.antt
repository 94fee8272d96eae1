-- Collected forms decide whether a sum is one of instances of symmetry rules.
use Rattle.std.proofs.Common.{◌≡◌, ℕ, suc, ◌+◌, ◌-◌, ◌*◌, ◌%◌, List, refl, ap, sym, ◌∙◌, subst, arith}
use mathlib.Core.List.{◌++◌}
use Rattle.modular_sums.specs.Sums.{coef, scale, Same, AllTerms}
use Rattle.modular_sums.proofs.Residues.{congruent_add, congruent_mul}
use Rattle.modular_sums.proofs.Sums.{coef-less}
use Rattle.labelled_trees.specs.Trees.{Tree}
use Rattle.labelled_trees.specs.Equality.{tree_discrete}
use Rattle.labelled_trees.specs.Labelled.{IsLabelled}
use Rattle.operad_ideals.specs.Presentations.{Presentation, parts, arity_of, without_relations}
use Rattle.operad_ideals.specs.SpelledSums.{spelled_sum}
use Rattle.operad_ideals.specs.Ideals.{InIdeal}
use Rattle.operad_ideals.proofs.Ideals.{ideal-same}
use Rattle.operad_ideals.proofs.Collected.{less_collected, collected_forms}
use Rattle.operad_ideals.specs.Collected.{IsCollected, CollectedFormsDecide}
use Rattle.operad_ideals.proofs.Forms.{one_reduced}

module _ (p : Presentation) (n : ℕ) where
  pub form-same : (e f : List (ℕ × Tree ℕ)) → IsCollected (p.q + 1) (parts p) e f → Same tree_discrete p.q f (spelled_sum p.q (parts p) e)
  form-same e f c = let z : p.q + 1 - 1 ≡ p.q = omega arith in subst (λ m. Same tree_discrete m f (spelled_sum m (parts p) e)) z c.same

  -- a sum less its collected form
  less-form : (e f : List (ℕ × Tree ℕ)) → AllTerms e (IsLabelled (arity_of p) n) → IsCollected (p.q + 1) (parts p) e f → InIdeal (without_relations p) n (e ++ scale p.q f)
  less-form e f l c = ideal-same (without_relations p) n (e ++ scale p.q f) (e ++ scale p.q (spelled_sum p.q (parts p) e))
      (λ t. ap (λ m. m % suc p.q) (coef-less tree_discrete p.q e f t)
      ∙ congruent_add p.q (coef tree_discrete e t) (coef tree_discrete e t) (p.q * coef tree_discrete f t) (p.q * coef tree_discrete (spelled_sum p.q (parts p) e) t) refl
      (congruent_mul p.q p.q p.q (coef tree_discrete f t) (coef tree_discrete (spelled_sum p.q (parts p) e) t) refl (form-same e f c t))
      ∙ ap (λ m. m % suc p.q) (sym (coef-less tree_discrete p.q e (spelled_sum p.q (parts p) e) t)))
      (less_collected p n e l)

  pub collected_decide : CollectedFormsDecide p n
  collected_decide = record {
    difference = less-form;
    decide = λ d e f g ld le cd ce. (
      λ same. (collected_forms p n d e ld le).1 (λ t. sym (form-same d f cd t) ∙ ap (λ z. coef tree_discrete z t % suc p.q) same ∙ form-same e g ce t),
      λ h.
          let z : p.q ≡ p.q + 1 - 1 = omega arith in
          one_reduced (p.q + 1) (parts p) f g cd.reduced ce.reduced
          (subst (λ m. Same tree_discrete m f g) z (λ t. form-same d f cd t ∙ (collected_forms p n d e ld le).0 h t ∙ sym (form-same e g ce t))),
    );
  }
