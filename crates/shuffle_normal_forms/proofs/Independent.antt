-- Free trees are independent modulo the span of insertions.
use Rattle.std.proofs.Common.{◌≡◌, ℕ, ◌≤◌, ◌%◌, suc, List, [], sym, ◌∙◌, ap, inl, inr, ◌⊎◌}
use Rattle.modular_sums.specs.Sums.{AllTerms, Same, expand}
use Rattle.modular_sums.proofs.Images.{AllTerms-imp}
use Rattle.labelled_trees.specs.Trees.{Tree}
use Rattle.labelled_trees.specs.Equality.{tree_discrete}
use Rattle.shuffle_insertions.specs.Labels.{AreLabels}
use Rattle.shuffle_insertions.specs.Orders.{IsTreeOrder}
use Rattle.shuffle_bases.specs.Elements.{Setting, AreMonic, value_of}
use Rattle.shuffle_bases.specs.Reductions.{SElementsReduce, IsLed}
use Rattle.shuffle_bases.proofs.Laws.{diamond}
use Rattle.shuffle_normal_forms.specs.FreeTrees.{IsFreeTree}
use Rattle.shuffle_normal_forms.specs.NormalForms.{InSpan}
use Rattle.modular_sums.proofs.Coefficients.{coef_absent}
use Rattle.shuffle_normal_forms.proofs.Listing.{not_free}

module _ (labels : ℕ) (s : Setting) (are : AreLabels labels s.arity) (order : IsTreeOrder s.arity s.compare) (monic : AreMonic s)
    (N n : ℕ) (reduce : SElementsReduce s N) (le : n ≤ N) where
  pub zero_in_span : (e : List (ℕ × Tree ℕ)) → AllTerms e (IsFreeTree s n) → InSpan s n e → Same tree_discrete s.q e []
  zero_in_span e h m = go (diamond labels s are order monic N n reduce le m.uses)
    where
      go : Same tree_discrete s.q (expand value_of m.uses) [] ⊎ IsLed s n (expand value_of m.uses) → Same tree_discrete s.q e []
      go (inl z) = λ t. m.adds_up t ∙ z t
      go (inr d) = absurd (d.there (sym (m.adds_up d.by.tree)
          ∙ ap (λ c. c % suc s.q) (coef_absent tree_discrete e d.by.tree
          (AllTerms-imp (IsFreeTree s n) (λ x. x ≡ d.by.tree → ⊥) e (λ x k f. not_free s monic n d.by x f k.free) h))))
