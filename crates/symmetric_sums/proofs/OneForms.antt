-- Of two sums with one collected form, one is in the ideal of its arity where the other is.
use Rattle.std.proofs.Common.{◌≡◌, ◌≢◌, ℕ, suc, ◌+◌, ◌*◌, ◌%◌, List, [], ◌∷◌, refl, ap, sym, ◌∙◌, subst, arith}
use mathlib.Core.List.{◌++◌}
use native.Mathlib.Decide.{ℕ_discrete}
use Rattle.modular_sums.specs.Residues.{IsCongruent}
use Rattle.modular_sums.specs.Sums.{coef, scale, moved, AllTerms}
use Rattle.modular_sums.proofs.Residues.{congruent_add, congruent_mul, congruent_drop}
use Rattle.modular_sums.proofs.Sums.{coef-append, expand-moved, coef-less}
use Rattle.labelled_trees.specs.Trees.{Tree, graft}
use Rattle.labelled_trees.specs.Contexts.{fill}
use Rattle.labelled_trees.specs.Leaves.{leaf_count}
use Rattle.labelled_trees.specs.Equality.{tree_discrete}
use Rattle.labelled_trees.specs.Labelled.{IsLabelled}
use Rattle.labelled_trees.proofs.Counts.{leaf_count-labelled}
use Rattle.operad_ideals.specs.Sorting.{spelled, spelled_sign}
use Rattle.operad_ideals.specs.Presentations.{Presentation, parts, arity_of, IsSound, without_relations}
use Rattle.operad_ideals.specs.Rules.{Rule, relation, symmetry, rule_terms}
use Rattle.operad_ideals.specs.Ideals.{InIdeal}
use Rattle.operad_ideals.specs.HoleInstances.{HoleInstance, hole_element}
use Rattle.operad_ideals.proofs.Agreement.{agreement_keeps_labels}
use Rattle.operad_ideals.proofs.HoleInstances.{ideals_are_one}
use Rattle.operad_ideals.proofs.Ideals.{ideal-append, ideal-same}
use Rattle.operad_ideals.proofs.Spellings.{one_spelling}
use Rattle.operad_ideals.specs.Collected.{HaveOneForm}
use Rattle.operad_ideals.specs.SpelledSums.{spelled_sum}
use Rattle.operad_ideals.proofs.Collected.{less_collected}
use Rattle.symmetric_sums.proofs.Decisions.{form-same, collected_decide}
use Rattle.modular_sums.specs.Lists.{choose}

coef_nothing : (t : Tree ℕ) → coef tree_discrete [] t ≡ 0
unfolding coef
coef_nothing t = refl

-- a tree with another number of leaves than all trees of a sum has no coefficient in it
coef_apart : (m : ℕ) (e : List (ℕ × Tree ℕ)) (t : Tree ℕ) → AllTerms e (λ x. leaf_count x ≡ m) → leaf_count t ≢ m → coef tree_discrete e t ≡ 0
unfolding coef
coef_apart m [] t h ne = refl
coef_apart m (x ∷ e) t h ne = go (tree_discrete x.1 t) (coef_apart m e t h.1 ne)
  where
    go : (d : Dec (x.1 ≡ t)) → coef tree_discrete e t ≡ 0 → choose d x.0 0 + coef tree_discrete e t ≡ 0
    go (yes same) rest = absurd (ne (ap leaf_count (sym same) ∙ h.0))
    go (no _) rest = omega (arith, rest)

module _ (p : Presentation) where
  -- ---- symmetry rules are among the rules

  lifted_rule : Rule (without_relations p) → Rule p
  lifted_rule (relation r m) = absurd m
  lifted_rule (symmetry g i s h) = symmetry g i s h

  lifted_terms : (rule : Rule (without_relations p)) → rule_terms p (lifted_rule rule) ≡ rule_terms (without_relations p) rule
  unfolding lifted_rule
  lifted_terms (relation r m) = absurd m
  lifted_terms (symmetry g i s h) = refl

  lifted : (n : ℕ) → HoleInstance (without_relations p) n → HoleInstance p n
  lifted n i = record {
    rule = lifted_rule i.rule;
    context = i.context;
    inputs = i.inputs;
    labelled = subst (λ e. AllTerms (moved (λ x. fill i.context (graft x i.inputs)) e) (IsLabelled (arity_of p) n)) (sym (lifted_terms i.rule)) i.labelled;
  }

  lifted_value : (n : ℕ) (i : HoleInstance (without_relations p) n) → hole_element p n (lifted n i) ≡ hole_element (without_relations p) n i
  unfolding lifted
  lifted_value n i = ap (moved (λ x. fill i.context (graft x i.inputs))) (lifted_terms i.rule)

  -- a sum of instances of symmetry rules is in the ideal
  pub ideal_lifted : IsSound p → (n : ℕ) (e : List (ℕ × Tree ℕ)) → InIdeal (without_relations p) n e → InIdeal p n e
  ideal_lifted sound n e h =
      let hole = (ideals_are_one (without_relations p) n e (λ r m. absurd m)).0 h in
      (ideals_are_one p n e sound).1 record {
        uses = moved (lifted n) hole.uses;
        adds_up = λ t. hole.adds_up t
            ∙ ap (λ l. coef tree_discrete l t % suc p.q) (sym (expand-moved (hole_element (without_relations p) n) (hole_element p n) (lifted n) (lifted_value n) hole.uses));
      }

  -- ---- two arities

  spelled_leaves : (n : ℕ) (e : List (ℕ × Tree ℕ)) → AllTerms e (IsLabelled (arity_of p) n) → AllTerms (spelled_sum p.q (parts p) e) (λ x. leaf_count x ≡ n)
  spelled_leaves n [] h = tt
  spelled_leaves n (x ∷ e) h = (
    leaf_count-labelled (arity_of p) n (spelled (parts p) x.1)
        (agreement_keeps_labels (parts p) n (spelled_sign (parts p) x.1) x.1 (spelled (parts p) x.1) (one_spelling (parts p) n x.1 h.0).0.agrees h.0),
    spelled_leaves n e h.1,
  )

  -- where the arities differ, the one form is nothing
  other_arity : IsSound p → (m n : ℕ) (e f : List (ℕ × Tree ℕ)) → m ≢ n → AllTerms e (IsLabelled (arity_of p) m) → AllTerms f (IsLabelled (arity_of p) n) → HaveOneForm (p.q + 1) (parts p) e f → InIdeal p m e
  other_arity sound m n e f ne le lf h = ideal-same p m e (e ++ scale p.q (spelled_sum p.q (parts p) e))
      (λ t.
      let z : coef tree_discrete e t + p.q * 0 ≡ coef tree_discrete e t = omega arith in
      ap (λ k. k % suc p.q) (sym z)
      ∙ congruent_add p.q (coef tree_discrete e t) (coef tree_discrete e t) (p.q * 0) (p.q * coef tree_discrete (spelled_sum p.q (parts p) e) t) refl
      (congruent_mul p.q p.q p.q 0 (coef tree_discrete (spelled_sum p.q (parts p) e) t) refl (sym (none t (ℕ_discrete (leaf_count t) m))))
      ∙ ap (λ k. k % suc p.q) (sym (coef-less tree_discrete p.q e (spelled_sum p.q (parts p) e) t)))
      (ideal_lifted sound m (e ++ scale p.q (spelled_sum p.q (parts p) e)) (less_collected p m e le))
    where
      none : (t : Tree ℕ) → Dec (leaf_count t ≡ m) → IsCongruent p.q (coef tree_discrete (spelled_sum p.q (parts p) e) t) 0
      none t (no f') = ap (λ k. k % suc p.q) (coef_apart m (spelled_sum p.q (parts p) e) t (spelled_leaves m e le) f')
      none t (yes same) =
          sym (form-same p m e h.0 h.1 t) ∙ form-same p m f h.0 h.2 t
          ∙ ap (λ k. k % suc p.q) (coef_apart n (spelled_sum p.q (parts p) f) t (spelled_leaves n f lf) (λ k. ne (sym same ∙ k)))

  same_arity : IsSound p → (n : ℕ) (e f : List (ℕ × Tree ℕ)) → AllTerms e (IsLabelled (arity_of p) n) → AllTerms f (IsLabelled (arity_of p) n) → HaveOneForm (p.q + 1) (parts p) e f → InIdeal p n f → InIdeal p n e
  same_arity sound n e f le lf h member =
      let less : InIdeal p n (e ++ scale p.q f) = ideal_lifted sound n (e ++ scale p.q f) (((collected_decide p n).decide e f h.0 h.0 le lf h.1 h.2).0 refl) in
      ideal-same p n e ((e ++ scale p.q f) ++ f)
      (λ t.
      let turned : coef tree_discrete e t + (coef tree_discrete f t + p.q * coef tree_discrete f t) ≡ coef tree_discrete e t + p.q * coef tree_discrete f t + coef tree_discrete f t = omega arith in
      sym (congruent_drop p.q (coef tree_discrete e t) (coef tree_discrete f t)) ∙ ap (λ k. k % suc p.q) turned
      ∙ ap (λ k. k % suc p.q) (sym (coef-append tree_discrete (e ++ scale p.q f) f t ∙ ap (λ k. k + coef tree_discrete f t) (coef-less tree_discrete p.q e f t))))
      (ideal-append p n (e ++ scale p.q f) f less member)

  -- of two sums with one collected form, the one is in the ideal where the other is
  pub one_form_member : IsSound p → (m n : ℕ) (e f : List (ℕ × Tree ℕ)) → AllTerms e (IsLabelled (arity_of p) m) → AllTerms f (IsLabelled (arity_of p) n) → HaveOneForm (p.q + 1) (parts p) e f → InIdeal p n f → InIdeal p m e
  one_form_member sound m n e f le lf h member = go (ℕ_discrete m n)
    where
      go : Dec (m ≡ n) → InIdeal p m e
      go (yes same) = same_arity sound m e f le (subst (λ k. AllTerms f (IsLabelled (arity_of p) k)) (sym same) lf) h (subst (λ k. InIdeal p k f) (sym same) member)
      go (no ne) = other_arity sound m n e f ne le lf h
