-- Normal forms tell sums apart modulo the span of insertions.
use Rattle.std.proofs.Common.{ℕ, ◌≤◌, List, []}
use mathlib.Core.List.{◌++◌}
use Rattle.modular_sums.specs.Sums.{scale, Same}
use Rattle.modular_sums.proofs.Sums.{AllTerms-append, AllTerms-scale}
use Rattle.labelled_trees.specs.Trees.{Tree}
use Rattle.labelled_trees.specs.Equality.{tree_discrete}
use Rattle.shuffle_insertions.specs.Labels.{AreLabels}
use Rattle.shuffle_insertions.specs.Orders.{IsTreeOrder}
use Rattle.shuffle_bases.specs.Elements.{Setting, AreMonic}
use Rattle.shuffle_bases.specs.Reductions.{SElementsReduce}
use Rattle.shuffle_normal_forms.specs.FreeTrees.{IsFreeTree}
use Rattle.shuffle_normal_forms.specs.NormalForms.{InSpan, IsShuffleNormalForm}
use Rattle.modular_sums.proofs.Differences.{same_gone, same_forms_apart, same_sums_apart, same_of_zero}
use Rattle.shuffle_normal_forms.proofs.Insertions.{span}
use Rattle.shuffle_normal_forms.proofs.Independent.{zero_in_span}

abbrev Sum : Type 0
Sum = List (ℕ × Tree ℕ)

-- where normal forms are the same, the difference lies in the span
pub in_span : (s : Setting) (n : ℕ) (d e f g : Sum) → IsShuffleNormalForm s n d f → IsShuffleNormalForm s n e g → Same tree_discrete s.q f g → InSpan s n (d ++ scale s.q e)
in_span s n d e f g hf hg h = (span s n).same (d ++ scale s.q e) ((d ++ scale s.q f) ++ scale s.q (e ++ scale s.q g)) (same_sums_apart tree_discrete s.q d e f g h)
    ((span s n).added (d ++ scale s.q f) (scale s.q (e ++ scale s.q g)) hf.rest ((span s n).scaled s.q (e ++ scale s.q g) hg.rest))

module _ (labels : ℕ) (s : Setting) (are : AreLabels labels s.arity) (order : IsTreeOrder s.arity s.compare) (monic : AreMonic s)
    (N n : ℕ) (reduce : SElementsReduce s N) (le : n ≤ N) where
  pub same_form : (d e f g : Sum) → IsShuffleNormalForm s n d f → IsShuffleNormalForm s n e g → InSpan s n (d ++ scale s.q e) → Same tree_discrete s.q f g
  same_form d e f g hf hg m = same_of_zero tree_discrete s.q f g
      (zero_in_span labels s are order monic N n reduce le (f ++ scale s.q g)
      (AllTerms-append f (scale s.q g) (IsFreeTree s n) hf.on_free (AllTerms-scale s.q g (IsFreeTree s n) hg.on_free))
      ((span s n).same (f ++ scale s.q g) ((scale s.q (d ++ scale s.q f) ++ (d ++ scale s.q e)) ++ (e ++ scale s.q g)) (same_forms_apart tree_discrete s.q d e f g)
      ((span s n).added (scale s.q (d ++ scale s.q f) ++ (d ++ scale s.q e)) (e ++ scale s.q g)
      ((span s n).added (scale s.q (d ++ scale s.q f)) (d ++ scale s.q e) ((span s n).scaled s.q (d ++ scale s.q f) hf.rest) m) hg.rest)))

  pub one_form : (e f g : Sum) → IsShuffleNormalForm s n e f → IsShuffleNormalForm s n e g → Same tree_discrete s.q f g
  one_form e f g hf hg = same_form e e f g hf hg ((span s n).same (e ++ scale s.q e) [] (same_gone tree_discrete s.q e) (span s n).none)
