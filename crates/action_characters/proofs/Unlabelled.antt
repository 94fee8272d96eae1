-- Why the trees of an independent and spanning list are labelled: a list with a tree that isn't may meet all else that is asked of such
-- lists, though it is longer, and give the identity another trace.
use Rattle.std.proofs.Common.{◌≡◌, ℕ, suc, ◌%◌, List, [], ◌∷◌, refl, sym, ◌∙◌, ap, arith, subst, inl, inr, ◌+◌}
use Rattle.std.specs.Prelude.{flat_map}
use mathlib.Core.List.{◌++◌}
use native.Mathlib.Decide.{ℕ_discrete}
use Rattle.modular_sums.specs.Residues.{IsCongruent}
use Rattle.modular_sums.specs.Lists.{Mem, Distinct, choose}
use Rattle.modular_sums.specs.Sums.{coef, scale, Same, moved, AllTerms}
use Rattle.modular_sums.proofs.Sums.{AllTerms-append, AllTerms-scale}
use Rattle.modular_sums.proofs.Coefficients.{coef_absent}
use Rattle.modular_sums.proofs.Differences.{same_gone}
use Rattle.modular_sums.proofs.Images.{AllTerms-imp}
use Rattle.labelled_trees.specs.Trees.{Tree, leaf}
use Rattle.labelled_trees.specs.Equality.{same_leaf, same_node, same_more, tree_discrete_by, row_discrete_by, tree_discrete}
use Rattle.labelled_trees.specs.Labelled.{IsLabelled}
use Rattle.operad_ideals.specs.Presentations.{Presentation, arity_of}
use Rattle.operad_ideals.specs.Rules.{rule_terms}
use Rattle.operad_ideals.specs.Ideals.{placed, Instance, element, InIdeal}
use Rattle.operad_ideals.proofs.Ideals.{ideal_zero, ideal-same}
use Rattle.shuffle_insertions.specs.Listing.{upto}
use Rattle.shuffle_transfer.specs.NormalTrees.{IsCombination}
use Rattle.shuffle_transfer.proofs.Jacobi.{lie}
use Rattle.action_characters.proofs.ModularTraces.{one}
use Rattle.action_characters.specs.Traces.{IsTrace}
use Rattle.action_characters.specs.Actions.{acted}
use Rattle.action_characters.proofs.Actions.{acted-upto}
use Rattle.action_characters.proofs.Lie.{trees, basis}
use Rattle.modular_sums.proofs.Choices.{choose-no}

-- ---- an element of the ideal has the coefficient 0 at a tree that isn't labelled

module _ (p : Presentation) (n : ℕ) where
  all_labelled : (l : List (Instance p n)) → AllTerms (flat_map (element p n) l) (IsLabelled (arity_of p) n)
  all_labelled [] = tt
  all_labelled (i ∷ l) = AllTerms-append (element p n i) (flat_map (element p n) l) (IsLabelled (arity_of p) n)
      (AllTerms-scale i.residue (moved (placed i.context i.inputs) (rule_terms p i.rule)) (IsLabelled (arity_of p) n) i.labelled) (all_labelled l)

  unlabelled_gone : (e : List (ℕ × Tree ℕ)) → InIdeal p n e → (t : Tree ℕ) → (IsLabelled (arity_of p) n t → ⊥) → IsCongruent p.q (coef tree_discrete e t) 0
  unlabelled_gone e h t out = h.adds_up t ∙ ap (λ k. k % suc p.q) (coef_absent tree_discrete (flat_map (element p n) h.instances) t
      (AllTerms-imp (IsLabelled (arity_of p) n) (λ u. u ≡ t → ⊥) (flat_map (element p n) h.instances) (λ u k e. out (subst (IsLabelled (arity_of p) n) e k)) (all_labelled h.instances)))

-- ---- the list with leaf 0 before the normal trees

not_labelled : IsLabelled (arity_of lie) 3 (leaf 0) → ⊥
unfolding ℕ_discrete
not_labelled h = let r = h.only 0 (omega arith) in absurd (omega (arith, r.0))

abbrev kept : {A : Type 0} → Dec A → ℕ × Tree ℕ → List (ℕ × Tree ℕ) → List (ℕ × Tree ℕ)
kept (yes _) x e = e
kept (no _) x e = x ∷ e

-- the terms at other trees
others : List (ℕ × Tree ℕ) → List (ℕ × Tree ℕ)
others [] = []
others (x ∷ e) = kept (tree_discrete x.1 (leaf 0)) x (others e)

others_there : (e : List (ℕ × Tree ℕ)) → AllTerms e (λ t. Mem t (leaf 0 ∷ trees)) → AllTerms (others e) (λ t. Mem t trees)
unfolding others
others_there [] h = tt
others_there (x ∷ e) h = go (tree_discrete x.1 (leaf 0)) h.0 (others_there e h.1)
  where
    go : (d : Dec (x.1 ≡ leaf 0)) → Mem x.1 (leaf 0 ∷ trees) → AllTerms (others e) (λ t. Mem t trees) → AllTerms (kept d x (others e)) (λ t. Mem t trees)
    go (yes _) m ih = ih
    go (no f) (inl s) ih = absurd (f s)
    go (no f) (inr m) ih = (m, ih)

others_coef : (t : Tree ℕ) → (t ≡ leaf 0 → ⊥) → (e : List (ℕ × Tree ℕ)) → coef tree_discrete (others e) t ≡ coef tree_discrete e t
unfolding others coef
others_coef t ne [] = refl
others_coef t ne (x ∷ e) = go (tree_discrete x.1 (leaf 0)) (others_coef t ne e)
  where
    go : (d : Dec (x.1 ≡ leaf 0)) → coef tree_discrete (others e) t ≡ coef tree_discrete e t → coef tree_discrete (kept d x (others e)) t ≡ choose (tree_discrete x.1 t) x.0 0 + coef tree_discrete e t
    go (yes s) ih = let z : choose (tree_discrete x.1 t) x.0 0 ≡ 0 = choose-no (tree_discrete x.1 t) x.0 0 (λ k. ne (sym k ∙ s)) in omega (arith, z, ih)
    go (no f) ih = ap (λ k. choose (tree_discrete x.1 t) x.0 0 + k) ih

none_there : (e : List (ℕ × Tree ℕ)) → AllTerms (others e) (λ x. x ≡ leaf 0 → ⊥)
unfolding others
none_there [] = tt
none_there (x ∷ e) = go (tree_discrete x.1 (leaf 0)) (none_there e)
  where
    go : (d : Dec (x.1 ≡ leaf 0)) → AllTerms (others e) (λ y. y ≡ leaf 0 → ⊥) → AllTerms (kept d x (others e)) (λ y. y ≡ leaf 0 → ⊥)
    go (yes _) ih = ih
    go (no f) ih = (f, ih)

others_same : (e : List (ℕ × Tree ℕ)) → InIdeal lie 3 e → Same tree_discrete 100 (others e) e
others_same e h t = go (tree_discrete t (leaf 0))
  where
    go : Dec (t ≡ leaf 0) → IsCongruent 100 (coef tree_discrete (others e) t) (coef tree_discrete e t)
    go (yes s) = ap (λ u. coef tree_discrete (others e) u % 101) s ∙ ap (λ k. k % 101) (coef_absent tree_discrete (others e) (leaf 0) (none_there e))
        ∙ sym (unlabelled_gone lie 3 e h (leaf 0) not_labelled) ∙ ap (λ u. coef tree_discrete e u % 101) (sym s)
    go (no ne) = ap (λ k. k % 101) (others_coef t ne e)

pub still_distinct : Distinct (leaf 0 ∷ trees)
still_distinct = (apart, basis.independent.distinct)
  where
    apart : Mem (leaf 0) trees → ⊥
    apart (inl e) = absurd (cc e)
    apart (inr (inl e)) = absurd (cc e)
    apart (inr (inr m)) = m

pub still_zero : (e : List (ℕ × Tree ℕ)) → AllTerms e (λ t. Mem t (leaf 0 ∷ trees)) → InIdeal lie 3 e → Same tree_discrete 100 e []
still_zero e h i t = sym (others_same e i t) ∙ basis.independent.zero (others e) (others_there e h) (ideal-same lie 3 (others e) e (others_same e i) i) t

pub still_spans : (t : Tree ℕ) → IsLabelled (arity_of lie) 3 t → (e : List (ℕ × Tree ℕ)) × AllTerms e (λ u. Mem u (leaf 0 ∷ trees)) × InIdeal lie 3 ((1, t) ∷ scale 100 e)
still_spans t h = let k = basis.spanning.spans t h in (k.0, AllTerms-imp (λ u. Mem u trees) (λ u. Mem u (leaf 0 ∷ trees)) k.0 (λ u m. inr m) k.1, k.2)

itself : (t : Tree ℕ) → Mem t (leaf 0 ∷ trees) → IsCombination lie 3 (leaf 0 ∷ trees) (one t) (one t)
itself t m = record { on_list = (m, tt); rest = ideal-same lie 3 (one t ++ scale 100 (one t)) [] (same_gone tree_discrete 100 (one t)) (ideal_zero lie 3) }

-- the identity has the trace 3 on this list, and 2 on a basis
pub another_trace : IsTrace lie 3 (upto 3) (leaf 0 ∷ trees) 3
unfolding ℕ_discrete tree_discrete tree_discrete_by row_discrete_by same_leaf same_node same_more coef
another_trace = record {
  forms = one;
  each = λ t m. subst (λ y. IsCombination lie 3 (leaf 0 ∷ trees) ((1, y) ∷ []) (one t)) (sym (unmoved t m)) (itself t m);
  adds_up = refl;
}
  where
    unmoved : (t : Tree ℕ) → Mem t (leaf 0 ∷ trees) → acted (upto 3) t ≡ t
    unmoved t (inl e) = subst (λ y. acted (upto 3) y ≡ y) (sym e) refl
    unmoved t (inr m) = acted-upto (arity_of lie) 3 t (basis.independent.labelled t m)
