-- Forms and traces of permutations.
use Rattle.std.proofs.Common.{◌≡◌, ℕ, ◌%◌, ◌<◌, ◌≤◌, suc, List, [], ◌∷◌, length, refl, sym, ◌∙◌, ap, arith, subst, inl, inr}
use mathlib.Core.List.{◌++◌}
use Rattle.std.specs.List.{sum_by}
use Rattle.modular_sums.specs.Residues.{IsCongruent}
use Rattle.modular_sums.specs.Lists.{Mem}
use Rattle.modular_sums.specs.Sums.{coef, scale, Same, expand}
use Rattle.modular_sums.proofs.Residues.{congruent_add}
use Rattle.modular_sums.proofs.Coefficients.{coef_nothing, coef_first}
use Rattle.modular_sums.proofs.Differences.{same_gone}
use Rattle.action_characters.specs.ModularTraces.{IsFormOn, IsLinearTrace}
use Rattle.action_characters.proofs.Totals.{total, sum_by-total, total_ext}
use Rattle.action_characters.proofs.Choices.{chosen}
use Rattle.action_characters.proofs.ModularTraces.{one, expand_one, trace_same, bases_agree, traces_commute, forms_are_unique as one_form}
use Rattle.labelled_trees.specs.Trees.{Tree}
use Rattle.labelled_trees.specs.Equality.{tree_discrete}
use Rattle.labelled_trees.specs.Labelled.{IsLabelled}
use Rattle.operad_ideals.specs.Presentations.{Presentation, arity_of}
use Rattle.operad_ideals.specs.Ideals.{Instance, element}
use Rattle.operad_ideals.proofs.Ideals.{ideal_zero, ideal-same}
use Rattle.shuffle_transfer.specs.Orderings.{IsOrdering, entry}
use Rattle.shuffle_transfer.specs.NormalTrees.{IsIndependent, IsSpanning, IsCombination}
use Rattle.shuffle_transfer.proofs.NormalForms.{combination, congruent, gone}
use Rattle.shuffle_transfer.proofs.Orderings.{entry_within}
use Rattle.action_characters.specs.Actions.{acted}
use Rattle.action_characters.specs.CycleTypes.{type_permutation}
use Rattle.action_characters.specs.Traces.{IsBasis, IsTrace, AreRows, diagonal}
use Rattle.action_characters.specs.Laws.{FormsAreUnique, TracesExist, TraceIsInvariant, ConjugatesHaveOneTrace, IdentityCounts, RowsGiveTrace, TypesSuffice}
use Rattle.action_characters.proofs.Entries.{Inverse, inverse, Composite, composite}
use Rattle.action_characters.proofs.Actions.{labelled-acted, acted-upto, acted-acted}
use Rattle.action_characters.proofs.TypePermutations.{types_are_permutations}
use Rattle.action_characters.proofs.CycleForms.{each_has_type}
use Rattle.action_characters.proofs.Spans.{in_span, free_list, as_form, as_combination, image, keeps}

-- ---- forms

module _ (p : Presentation) (n : ℕ) (l : List (Tree ℕ)) (spanning : IsSpanning p n l) where
  -- each labelled tree has a form
  pub tree_form : (t : Tree ℕ) → IsLabelled (arity_of p) n t → (f : List (ℕ × Tree ℕ)) × IsFormOn tree_discrete (element p n) p.q l (one t) f
  tree_form t h = let k = spanning.spans t h in (k.0, record { on_list = k.1; rest = in_span p n ((1, t) ∷ scale p.q k.0) k.2 })

pub forms_are_unique : FormsAreUnique
forms_are_unique p n l free spanning e h =
    let k = combination p n l spanning e h in
    (k.0, k.1, λ g i. (congruent p n l free e e k.0 g k.1 i).0 (gone p n e))

-- ---- traces

module _ (p : Presentation) (n : ℕ) (w : List ℕ) where
  pub as_trace : (l : List (Tree ℕ)) (r : ℕ) → IsTrace p n w l r → IsLinearTrace tree_discrete (element p n) p.q (image p n w) l r
  as_trace l r h = record { forms = h.forms; each = λ t m. as_form p n l (image p n w t) (h.forms t) (h.each t m); adds_up = h.adds_up }

  -- a basis has a form of each tree that is relabelled
  acted_form : IsOrdering n w → (k l : List (Tree ℕ)) → IsBasis p n k → IsBasis p n l → (t : Tree ℕ) → Mem t k → (f : List (ℕ × Tree ℕ)) × IsFormOn tree_discrete (element p n) p.q l (image p n w t) f
  acted_form o k l a b t m = tree_form p n l b.spanning (acted w t) (labelled-acted (arity_of p) n w o t (a.independent.labelled t m))

pub traces_exist : TracesExist
traces_exist p n w o l b =
    let c = chosen tree_discrete l [] (λ t f. IsFormOn tree_discrete (element p n) p.q l (image p n w t) f) (acted_form p n w o l l b b) in
    (sum_by (λ t. coef tree_discrete (c.0 t) t) l % suc p.q, record { forms = c.0; each = λ t m. as_combination p n l (image p n w t) (c.0 t) (c.1 t m); adds_up = refl })

pub trace_is_invariant : TraceIsInvariant
trace_is_invariant p n w o k l a b r s tr ts =
    bases_agree (Tree ℕ) (Instance p n) tree_discrete (element p n) p.q (image p n w) (keeps p n w o) k l (free_list p n k a.independent) (free_list p n l b.independent)
    (λ t m. tree_form p n l b.spanning t (a.independent.labelled t m)) (λ t m. tree_form p n k a.spanning t (b.independent.labelled t m)) r s (as_trace p n w k r tr) (as_trace p n w l s ts)

-- ---- conjugates

pub conjugates_have_one_trace : ConjugatesHaveOneTrace
conjugates_have_one_trace p n v w x ov ow ox conjugate k l a b r s tr ts =
    traces_commute (Tree ℕ) (Tree ℕ) (Instance p n) (Instance p n) tree_discrete tree_discrete p.q (element p n) (element p n) (image p n v) (image p n u.list)
    (keeps p n v ov) (keeps p n u.list u.is) k l (free_list p n k a.independent) (free_list p n l b.independent)
    (acted_form p n v ov k l a b) (acted_form p n u.list u.is l k b a) r s
    (trace_same tree_discrete (element p n) p.q (λ t. expand (image p n u.list) (image p n v t)) (image p n w) k r there (as_trace p n w k r tr))
    (trace_same tree_discrete (element p n) p.q (λ t. expand (image p n v) (image p n u.list t)) (image p n x) l s back (as_trace p n x l s ts))
  where
    i : Inverse n v
    i = inverse n v ov

    -- w after the inverse of v
    u : Composite n w i.list
    u = composite n w i.list ow i.is

    u_after_v : (j : ℕ) → 0 < j → j ≤ n → entry u.list (entry v j) ≡ entry w j
    u_after_v j low high = let k = entry_within n v ov j low high in u.at (entry v j) k.0 k.1 ∙ ap (entry w) (i.before j low high)

    v_after_u : (j : ℕ) → 0 < j → j ≤ n → entry v (entry u.list j) ≡ entry x j
    v_after_u j low high =
        let k = entry_within n i.list i.is j low high in
        ap (entry v) (u.at j low high) ∙ sym (conjugate (entry i.list j) k.0 k.1) ∙ ap (entry x) (i.after j low high)

    there : (t : Tree ℕ) → Mem t k → Same tree_discrete p.q (expand (image p n u.list) (image p n v t)) (image p n w t)
    there t m z = expand_one tree_discrete p.q (image p n u.list) (acted v t) z
        ∙ ap (λ y. coef tree_discrete ((1, y) ∷ []) z % suc p.q) (acted-acted (arity_of p) n u.list v (entry w) u_after_v t (a.independent.labelled t m))

    back : (t : Tree ℕ) → Mem t l → Same tree_discrete p.q (expand (image p n v) (image p n u.list t)) (image p n x t)
    back t m z = expand_one tree_discrete p.q (image p n v) (acted u.list t) z
        ∙ ap (λ y. coef tree_discrete ((1, y) ∷ []) z % suc p.q) (acted-acted (arity_of p) n v u.list (entry x) v_after_u t (b.independent.labelled t m))

pub types_suffice : TypesSuffice
types_suffice n w o =
    let t = each_has_type n w o in
    let at = (types_are_permutations n t.0 t.1).0 in (
      t.0,
      t.1,
      λ p l b r tr.
          let s = traces_exist p n w o l b in
          subst (IsTrace p n w l) (sym (conjugates_have_one_trace p n t.2.0 (type_permutation t.0) w t.2.1 at o t.2.2 l l b b r s.0 tr s.1)) s.1,
    )

-- ---- the identity

total_ones : {X : Type 0} (l : List X) → total (λ x. 1) l ≡ length l
total_ones [] = refl
total_ones (x ∷ l) = omega (arith, total_ones l)

pub identity_counts : IdentityCounts
identity_counts p n l b = record {
  forms = one;
  each = λ t m. subst (λ y. IsCombination p n l ((1, y) ∷ []) (one t)) (sym (acted-upto (arity_of p) n t (b.independent.labelled t m)))
      record { on_list = (m, tt); rest = ideal-same p n (one t ++ scale p.q (one t)) [] (same_gone tree_discrete p.q (one t)) (ideal_zero p n) };
  adds_up = ap (λ k. k % suc p.q) (sym (sum_by-total (λ t. coef tree_discrete (one t) t) l
      ∙ total_ext (λ t. coef tree_discrete (one t) t) (λ t. 1) l (λ t m. coef_first tree_discrete 1 t [] (coef_nothing tree_discrete t)) ∙ total_ones l));
}

-- ---- rows

module _ (p : Presentation) (n : ℕ) (w : List ℕ) (l : List (Tree ℕ)) (free : IsIndependent p n l) where
  row_of : (trees : List (Tree ℕ)) (rows : List (List (ℕ × Tree ℕ))) → AreRows p n w l trees rows → (t : Tree ℕ) → Mem t trees → (f : List (ℕ × Tree ℕ)) × IsCombination p n l (image p n w t) f
  row_of [] rows h t m = absurd m
  row_of (u ∷ trees) [] h t m = absurd h
  row_of (u ∷ trees) (f ∷ rows) h t (inl e) = (f, subst (λ y. IsCombination p n l (image p n w y) f) (sym e) h.0)
  row_of (u ∷ trees) (f ∷ rows) h t (inr m) = row_of trees rows h.1 t m

  -- the coefficients of other forms
  diagonal_alike : (forms : Tree ℕ → List (ℕ × Tree ℕ)) (trees : List (Tree ℕ)) → ((t : Tree ℕ) → Mem t trees → IsCombination p n l (image p n w t) (forms t))
      → (rows : List (List (ℕ × Tree ℕ))) → AreRows p n w l trees rows → IsCongruent p.q (diagonal trees rows) (total (λ t. coef tree_discrete (forms t) t) trees)
  diagonal_alike forms [] h rows k = refl
  diagonal_alike forms (t ∷ trees) h [] k = absurd k
  diagonal_alike forms (t ∷ trees) h (f ∷ rows) k =
      congruent_add p.q (coef tree_discrete f t) (coef tree_discrete (forms t) t) (diagonal trees rows) (total (λ u. coef tree_discrete (forms u) u) trees)
      (one_form (Tree ℕ) (Instance p n) tree_discrete (element p n) p.q l (free_list p n l free) (image p n w t) f (forms t) (as_form p n l (image p n w t) f k.0) (as_form p n l (image p n w t) (forms t) (h t (inl refl))) t)
      (diagonal_alike forms trees (λ u m. h u (inr m)) rows k.1)

pub rows_give_trace : RowsGiveTrace
rows_give_trace p n w l free rows h =
    let c = chosen tree_discrete l [] (λ t f. IsCombination p n l (image p n w t) f) (row_of p n w l free l rows h) in
    record {
      forms = c.0;
      each = c.1;
      adds_up = diagonal_alike p n w l free c.0 l c.1 rows h ∙ ap (λ k. k % suc p.q) (sym (sum_by-total (λ t. coef tree_discrete (c.0 t) t) l));
    }
