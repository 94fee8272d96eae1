-- An example: the characters of one skew bracket with the Jacobi relation in arity 3.
use Rattle.std.proofs.Common.{◌≡◌, ℕ, zero, suc, List, [], ◌∷◌, refl, sym, arith, subst, inl, inr}
use mathlib.Core.List.{◌++◌}
use native.Mathlib.Decide.{ℕ_discrete}
use Rattle.modular_sums.specs.Lists.{Mem}
use Rattle.modular_sums.specs.Sums.{coef, scale, moved, Same, AllTerms}
use Rattle.modular_sums.proofs.Sums.{combination-scale, combination-same, AllTerms-scale}
use Rattle.modular_sums.proofs.Images.{AllTerms-imp}
use Rattle.modular_sums.proofs.Sameness.{same_if_agree}
use Rattle.labelled_trees.specs.Trees.{Tree}
use Rattle.labelled_trees.specs.Equality.{same_leaf, same_node, same_more, tree_discrete_by, row_discrete_by, tree_discrete}
use Rattle.labelled_trees.specs.Labelled.{IsLabelled}
use Rattle.shuffle_insertions.proofs.Examples.{t2, t3}
use Rattle.shuffle_bases.proofs.Examples.{jacobi}
use Rattle.operad_ideals.specs.Presentations.{arity_of}
use Rattle.operad_ideals.specs.Ideals.{InIdeal}
use Rattle.shuffle_transfer.specs.Orderings.{IsOrdering}
use Rattle.shuffle_transfer.specs.Labels.{labels, symmetric_tree, word_discrete, same_cons, letter_discrete, same_letter}
use Rattle.shuffle_transfer.specs.Transfer.{relabelled, shuffled, inserted_relation}
use Rattle.shuffle_transfer.specs.GroebnerBases.{setting}
use Rattle.shuffle_transfer.proofs.Orderings.{all_orderings}
use Rattle.shuffle_transfer.proofs.Labels.{are_labels}
use Rattle.shuffle_normal_forms.specs.FreeTrees.{IsFreeTree, free_trees}
use Rattle.shuffle_normal_forms.specs.NormalForms.{InSpan}
use Rattle.shuffle_normal_forms.proofs.Laws.{all_listed}
use Rattle.shuffle_bases.specs.Elements.{Setting, value_of}
use Rattle.shuffle_transfer.specs.NormalTrees.{IsCombination, by_path, compare, HasNormalTrees}
use Rattle.shuffle_transfer.proofs.NormalTrees.{order_of}
use Rattle.shuffle_transfer.proofs.Jacobi.{jacobi_relation, lie, wide, sound, certified, two_normal, lie_normal, lie_transfer, relation_in_ideal}
use Rattle.action_characters.specs.Actions.{acted, IsConjugateBy}
use Rattle.action_characters.specs.CycleTypes.{IsCycleType, cycle_types, type_permutation}
use Rattle.action_characters.specs.Traces.{IsBasis, IsTrace, AreShuffleRows}
use Rattle.action_characters.proofs.Actions.{labelled-acted}
use Rattle.action_characters.proofs.CycleTypes.{cycle_types_listed}
use Rattle.action_characters.proofs.TypePermutations.{types_are_permutations}
use Rattle.action_characters.proofs.CycleForms.{each_has_type}
use Rattle.action_characters.proofs.Traces.{forms_are_unique, traces_exist, trace_is_invariant, conjugates_have_one_trace, types_suffice, rows_give_trace, identity_counts}
use Rattle.shuffle_transfer.proofs.RelabelledIdeals.{ideal_is_relabelled}
use Rattle.action_characters.proofs.ShuffleRows.{shuffle_forms_pass_back, shuffle_rows_give_trace}
use Rattle.action_characters.proofs.NormalTraces.{listing, normal_trees_give_trace}

-- the normal trees of arity 3: l(l(1,3),2) and l(1,l(2,3))
abbrev pub trees : List (Tree ℕ)
trees = t2 ∷ (t3 ∷ [])

pub basis : IsBasis lie 3 trees
basis = subst (IsBasis lie 3) two_normal record {
  independent = (lie_normal 3 (omega arith)).independent;
  spanning = (lie_normal 3 (omega arith)).spanning;
}

normal : HasNormalTrees lie (compare lie.generators by_path) 3 trees
normal = subst (HasNormalTrees lie (compare lie.generators by_path) 3) two_normal (listing lie sound wide (omega arith) (compare lie.generators by_path) (order_of lie.generators by_path) (jacobi ∷ []) 4 certified 3 (omega arith))

-- ---- the relation

-- what has the shuffle form of a multiple of the relation is in the ideal
in_ideal : (c : ℕ) (e : List (ℕ × Tree ℕ)) → AllTerms e (IsLabelled (arity_of lie) 3) → Same tree_discrete 100 (shuffled lie e) (scale c (shuffled lie jacobi_relation.terms)) → InIdeal lie 3 e
in_ideal c e h s = (lie_transfer e h).1 (combination-same tree_discrete (inserted_relation lie 3) 100 {e = shuffled lie e} {f = scale c (shuffled lie jacobi_relation.terms)} s
    (combination-scale tree_discrete (inserted_relation lie 3) 100 c {e = shuffled lie jacobi_relation.terms} ((lie_transfer jacobi_relation.terms (sound jacobi_relation (inl refl))).0 relation_in_ideal)))

-- ---- the rows

abbrev three : List ℕ
three = 3 ∷ []

abbrev two_one : List ℕ
two_one = 2 ∷ (1 ∷ [])

abbrev ones : List ℕ
ones = 1 ∷ (1 ∷ (1 ∷ []))

-- the cycle types of 3, and their permutations
three_types : cycle_types 3 ≡ three ∷ (two_one ∷ (ones ∷ []))
three_types = refl

their_permutations : (type_permutation three ≡ 2 ∷ (3 ∷ (1 ∷ []))) × (type_permutation two_one ≡ 2 ∷ (1 ∷ (3 ∷ []))) × (type_permutation ones ≡ 1 ∷ (2 ∷ (3 ∷ [])))
their_permutations = (refl, refl, refl)

abbrev Row : List ℕ → Tree ℕ → List (ℕ × Tree ℕ) → Type 0
Row w t f = IsCombination lie 3 trees ((1, acted w t) ∷ []) f

-- a row, where its difference has the shuffle form of a multiple of the relation
row : (w : List ℕ) → IsOrdering 3 w → (t : Tree ℕ) → Mem t trees → (f : List (ℕ × Tree ℕ)) → AllTerms f (λ u. Mem u trees)
    → (c : ℕ) → Same tree_discrete 100 (shuffled lie ((1, acted w t) ∷ scale 100 f)) (scale c (shuffled lie jacobi_relation.terms)) → Row w t f
row w o t m f h c s = record {
  on_list = h;
  rest = in_ideal c ((1, acted w t) ∷ scale 100 f)
      (labelled-acted (arity_of lie) 3 w o t (basis.independent.labelled t m), AllTerms-scale 100 f (IsLabelled (arity_of lie) 3) (AllTerms-imp (λ u. Mem u trees) (IsLabelled (arity_of lie) 3) f basis.independent.labelled h)) s;
}

is_type : (c : List ℕ) → Mem c (three ∷ (two_one ∷ (ones ∷ []))) → IsOrdering 3 (type_permutation c)
is_type c m = (types_are_permutations 3 c (((cycle_types_listed 3).2 c).0 m)).0

-- l(l(2,1),3) is less l(l(1,3),2) and l(1,l(2,3)), by the relation
three_first : Row (type_permutation three) t2 ((100, t2) ∷ ((100, t3) ∷ []))
unfolding word_discrete same_cons letter_discrete same_letter ℕ_discrete tree_discrete tree_discrete_by row_discrete_by same_leaf same_node same_more coef scale
three_first = row (type_permutation three) (is_type three (inl refl)) t2 (inl refl) ((100, t2) ∷ ((100, t3) ∷ [])) (inl refl, (inr (inl refl), tt)) 100
    (same_if_agree tree_discrete 100 (shuffled lie ((1, acted (type_permutation three) t2) ∷ scale 100 ((100, t2) ∷ ((100, t3) ∷ [])))) (scale 100 (shuffled lie jacobi_relation.terms)) refl)

-- l(2,l(3,1)) is l(l(1,3),2)
three_second : Row (type_permutation three) t3 ((1, t2) ∷ [])
unfolding word_discrete same_cons letter_discrete same_letter ℕ_discrete tree_discrete tree_discrete_by row_discrete_by same_leaf same_node same_more coef scale
three_second = row (type_permutation three) (is_type three (inl refl)) t3 (inr (inl refl)) ((1, t2) ∷ []) (inl refl, tt) 0
    (same_if_agree tree_discrete 100 (shuffled lie ((1, acted (type_permutation three) t3) ∷ scale 100 ((1, t2) ∷ []))) (scale 0 (shuffled lie jacobi_relation.terms)) refl)

-- l(l(2,3),1) is less l(1,l(2,3))
two_first : Row (type_permutation two_one) t2 ((100, t3) ∷ [])
unfolding word_discrete same_cons letter_discrete same_letter ℕ_discrete tree_discrete tree_discrete_by row_discrete_by same_leaf same_node same_more coef scale
two_first = row (type_permutation two_one) (is_type two_one (inr (inl refl))) t2 (inl refl) ((100, t3) ∷ []) (inr (inl refl), tt) 0
    (same_if_agree tree_discrete 100 (shuffled lie ((1, acted (type_permutation two_one) t2) ∷ scale 100 ((100, t3) ∷ []))) (scale 0 (shuffled lie jacobi_relation.terms)) refl)

-- l(2,l(1,3)) is less l(l(1,3),2)
two_second : Row (type_permutation two_one) t3 ((100, t2) ∷ [])
unfolding word_discrete same_cons letter_discrete same_letter ℕ_discrete tree_discrete tree_discrete_by row_discrete_by same_leaf same_node same_more coef scale
two_second = row (type_permutation two_one) (is_type two_one (inr (inl refl))) t3 (inr (inl refl)) ((100, t2) ∷ []) (inl refl, tt) 0
    (same_if_agree tree_discrete 100 (shuffled lie ((1, acted (type_permutation two_one) t3) ∷ scale 100 ((100, t2) ∷ []))) (scale 0 (shuffled lie jacobi_relation.terms)) refl)

-- ---- the traces

three_rows : List (List (ℕ × Tree ℕ))
three_rows = ((100, t2) ∷ ((100, t3) ∷ [])) ∷ (((1, t2) ∷ []) ∷ [])

-- - 1, which is 100 modulo 101
trace_three : IsTrace lie 3 (type_permutation three) trees 100
unfolding ℕ_discrete tree_discrete tree_discrete_by row_discrete_by same_leaf same_node same_more coef three_rows
trace_three = rows_give_trace lie 3 (type_permutation three) trees basis.independent three_rows (three_first, (three_second, tt))

trace_two_one : IsTrace lie 3 (type_permutation two_one) trees 0
unfolding ℕ_discrete tree_discrete tree_discrete_by row_discrete_by same_leaf same_node same_more coef
trace_two_one = rows_give_trace lie 3 (type_permutation two_one) trees basis.independent (((100, t3) ∷ []) ∷ (((100, t2) ∷ []) ∷ [])) (two_first, (two_second, tt))

trace_ones : IsTrace lie 3 (type_permutation ones) trees 2
trace_ones = identity_counts lie 3 trees basis

-- so on every basis
on_every_basis : (c : List ℕ) (r : ℕ) → Mem c (three ∷ (two_one ∷ (ones ∷ []))) → IsTrace lie 3 (type_permutation c) trees r
    → (k : List (Tree ℕ)) → IsBasis lie 3 k → IsTrace lie 3 (type_permutation c) k r
on_every_basis c r m tr = (normal_trees_give_trace lie sound wide (omega arith) (compare lie.generators by_path) (order_of lie.generators by_path) (jacobi ∷ []) 4 certified 3 (omega arith) trees normal).1 (type_permutation c) (is_type c m) r tr

pub lie_characters : (k : List (Tree ℕ)) → IsBasis lie 3 k
    → IsTrace lie 3 (type_permutation three) k 100 × IsTrace lie 3 (type_permutation two_one) k 0 × IsTrace lie 3 (type_permutation ones) k 2
lie_characters k b = (
  on_every_basis three 100 (inl refl) trace_three k b,
  on_every_basis two_one 0 (inr (inl refl)) trace_two_one k b,
  on_every_basis ones 2 (inr (inr (inl refl))) trace_ones k b,
)

-- 1 3 2 is conjugate to 2 1 3, so it has the trace 0
abbrev swap : List ℕ
swap = 1 ∷ (3 ∷ (2 ∷ []))

conjugate : IsConjugateBy 3 (type_permutation three) (type_permutation two_one) swap
conjugate zero low high = absurd (omega (arith, low))
conjugate (suc zero) low high = refl
conjugate (suc (suc zero)) low high = refl
conjugate (suc (suc (suc zero))) low high = refl
conjugate (suc (suc (suc (suc i)))) low high = absurd (omega (arith, high))

pub lie_swap : (k : List (Tree ℕ)) → IsBasis lie 3 k → (r : ℕ) → IsTrace lie 3 swap k r → 0 ≡ r
lie_swap k b r tr = conjugates_have_one_trace lie 3 (type_permutation three) (type_permutation two_one) swap (is_type three (inl refl)) (is_type two_one (inr (inl refl)))
    (((all_orderings 3).2 swap).0 (inr (inl refl))) conjugate trees k basis b 0 r trace_two_one tr

-- ---- forms, relabelled relations and rows of shuffle trees

pub lie_forms : (e : List (ℕ × Tree ℕ)) → AllTerms e (IsLabelled (arity_of lie) 3)
    → (f : List (ℕ × Tree ℕ)) × IsCombination lie 3 trees e f × ((g : List (ℕ × Tree ℕ)) → IsCombination lie 3 trees e g → Same tree_discrete 100 f g)
lie_forms = forms_are_unique lie 3 trees basis.independent basis.spanning

pub lie_relabelled : InIdeal lie 3 (relabelled swap jacobi_relation.terms)
lie_relabelled = ideal_is_relabelled lie 3 swap (((all_orderings 3).2 swap).0 (inr (inl refl))) jacobi_relation.terms relation_in_ideal

abbrev brackets : Setting
brackets = setting lie (compare lie.generators by_path) (jacobi ∷ [])

two_free : free_trees (labels lie.generators) brackets 3 ≡ trees
unfolding ℕ_discrete tree_discrete tree_discrete_by row_discrete_by same_leaf same_node same_more
two_free = refl

free : (t : Tree ℕ) → Mem t trees → IsFreeTree brackets 3 t
free t m = ((all_listed (labels lie.generators) brackets (are_labels lie wide) certified.monic 3).1 t).0 (subst (Mem t) (sym two_free) m)

-- what is a multiple of the relation's shuffle form is in the span
in_span : (c : ℕ) (e : List (ℕ × Tree ℕ)) → Same tree_discrete 100 e (scale c (shuffled lie (relabelled (1 ∷ (2 ∷ (3 ∷ []))) jacobi_relation.terms))) → InSpan brackets 3 e
in_span c e s = combination-same tree_discrete value_of 100 {e = e} {f = scale c (shuffled lie (relabelled (1 ∷ (2 ∷ (3 ∷ []))) jacobi_relation.terms))} s
    (combination-scale tree_discrete value_of 100 c {e = shuffled lie (relabelled (1 ∷ (2 ∷ (3 ∷ []))) jacobi_relation.terms)}
    (certified.relations jacobi_relation (inl refl) (omega arith) (1 ∷ (2 ∷ (3 ∷ []))) (inl refl)))

shuffle_rows : AreShuffleRows lie 3 (type_permutation three) brackets trees three_rows
unfolding word_discrete same_cons letter_discrete same_letter ℕ_discrete tree_discrete tree_discrete_by row_discrete_by same_leaf same_node same_more coef scale three_rows
shuffle_rows = (
  record {
    on_free = (free t2 (inl refl), (free t3 (inr (inl refl)), tt));
    rest = in_span 100 (shuffled lie ((1, acted (type_permutation three) t2) ∷ []) ++ scale 100 ((100, t2) ∷ ((100, t3) ∷ [])))
        (same_if_agree tree_discrete 100 (shuffled lie ((1, acted (type_permutation three) t2) ∷ []) ++ scale 100 ((100, t2) ∷ ((100, t3) ∷ [])))
        (scale 100 (shuffled lie (relabelled (1 ∷ (2 ∷ (3 ∷ []))) jacobi_relation.terms))) refl);
  },
  (
    record {
      on_free = (free t2 (inl refl), tt);
      rest = in_span 0 (shuffled lie ((1, acted (type_permutation three) t3) ∷ []) ++ scale 100 ((1, t2) ∷ []))
          (same_if_agree tree_discrete 100 (shuffled lie ((1, acted (type_permutation three) t3) ∷ []) ++ scale 100 ((1, t2) ∷ []))
          (scale 0 (shuffled lie (relabelled (1 ∷ (2 ∷ (3 ∷ []))) jacobi_relation.terms))) refl);
    },
    tt,
  ),
)

-- the same trace, from these rows
pub lie_by_shuffle_rows : (k : List (Tree ℕ)) → IsBasis lie 3 k → IsTrace lie 3 (type_permutation three) k 100
unfolding word_discrete same_cons letter_discrete same_letter ℕ_discrete tree_discrete tree_discrete_by row_discrete_by same_leaf same_node same_more coef three_rows
lie_by_shuffle_rows k b =
    shuffle_rows_give_trace lie sound wide (omega arith) (compare lie.generators by_path) (order_of lie.generators by_path) (jacobi ∷ []) 4 certified 3 (omega arith) trees normal (type_permutation three) (is_type three (inl refl)) three_rows shuffle_rows k b

-- the first of these rows, passed back
lie_passed : IsCombination lie 3 trees ((1, acted (type_permutation three) t2) ∷ []) (moved (symmetric_tree lie.generators) ((100, t2) ∷ ((100, t3) ∷ [])))
unfolding three_rows
lie_passed = (shuffle_forms_pass_back lie sound wide (omega arith) (compare lie.generators by_path) (order_of lie.generators by_path) (jacobi ∷ []) 4 certified 3 (omega arith) trees normal ((1, acted (type_permutation three) t2) ∷ []) ((100, t2) ∷ ((100, t3) ∷ []))
    (labelled-acted (arity_of lie) 3 (type_permutation three) (is_type three (inl refl)) t2 (basis.independent.labelled t2 (inl refl)), tt) shuffle_rows.0).0

-- ---- a permutation that is none of a cycle type

orders : IsOrdering 3 swap
orders = ((all_orderings 3).2 swap).0 (inr (inl refl))

swap_has_trace : (r : ℕ) × IsTrace lie 3 swap trees r
swap_has_trace = traces_exist lie 3 swap orders trees basis

swap_has_one : (k : List (Tree ℕ)) → IsBasis lie 3 k → (r : ℕ) → IsTrace lie 3 swap k r → swap_has_trace.0 ≡ r
swap_has_one k b r tr = trace_is_invariant lie 3 swap orders trees k basis b swap_has_trace.0 r swap_has_trace.1 tr

swap_has_type : (c : List ℕ) × IsCycleType 3 c × ((v : List ℕ) × IsOrdering 3 v × IsConjugateBy 3 v (type_permutation c) swap)
swap_has_type = each_has_type 3 swap orders

-- its type has a trace, which is that of the permutation
swap_by_type : (r : ℕ) × IsTrace lie 3 swap trees r
swap_by_type =
    let k = types_suffice 3 swap orders in
    let t = traces_exist lie 3 (type_permutation k.0) (types_are_permutations 3 k.0 k.1).0 trees basis in
    (t.0, k.2 lie trees basis t.0 t.1)
