-- An example: one skew bracket with the Jacobi relation, its one certified element, and its normal trees.
use Rattle.std.proofs.Common.{◌≡◌, ◌⊎◌, inl, inr, ℕ, zero, suc, ◌≤◌, List, [], ◌∷◌, true, refl, sym, ap, ◌∙◌, subst, arith}
use mathlib.Core.Path.{fun_ext}
use native.Mathlib.Decide.{ℕ_discrete}
use Rattle.modular_sums.specs.Lists.{Mem, has_by}
use Rattle.modular_sums.specs.Sums.{coef, scale, expand, IsLinearCombination, AllTerms, Same}
use Rattle.modular_sums.proofs.Lists.{has_by_mem}
use Rattle.modular_sums.proofs.Sameness.{same_if_agree}
use Rattle.labelled_trees.specs.Trees.{Tree, leaf}
use Rattle.labelled_trees.specs.Equality.{same_leaf, same_node, same_more, tree_discrete_by, row_discrete_by, tree_discrete}
use Rattle.shuffle_insertions.specs.ShuffleTrees.{IsShuffleTree}
use Rattle.shuffle_insertions.specs.Frames.{Frame, IsFrame}
use Rattle.shuffle_insertions.specs.Listing.{all_trees}
use Rattle.shuffle_insertions.proofs.Laws.{listed}
use Rattle.shuffle_insertions.proofs.Examples.{l, t1, t2, t3, one_binary}
use Rattle.shuffle_places.proofs.Laws.{places_listed}
use Rattle.shuffle_places.proofs.Examples.{top_two}
use Rattle.shuffle_bases.specs.Elements.{Element, terms, Setting, IsMonic, AreMonic, Insertion, value_of}
use Rattle.shuffle_bases.specs.Reductions.{SElementsReduce}
use Rattle.shuffle_bases.proofs.Examples.{jacobi, setting as bracket_setting, reduces}
use Rattle.operad_ideals.specs.Parts.{skew}
use Rattle.operad_ideals.specs.Presentations.{Relation, Presentation, arity_of, IsWide, IsSound, IsProper}
use Rattle.shuffle_transfer.specs.Orderings.{IsOrdering, orderings}
use Rattle.shuffle_transfer.specs.Labels.{labels, inputs_of, word_discrete, same_cons, letter_discrete, same_letter}
use Rattle.shuffle_transfer.specs.Transfer.{relabelled, shuffled, RelationInsertion, inserted_relation, IsSumOfInsertions}
use Rattle.shuffle_transfer.specs.GroebnerBases.{setting, IsGroebnerBasis}
use Rattle.shuffle_transfer.specs.NormalTrees.{by_path, compare, normal_list}
use Rattle.shuffle_transfer.specs.NormalLaws.{NormalLaw}
use Rattle.shuffle_transfer.proofs.Orderings.{all_orderings}
use Rattle.shuffle_transfer.proofs.Labels.{are_labels}
use Rattle.labelled_trees.specs.Labelled.{IsLabelled}
use Rattle.shuffle_transfer.proofs.ShuffleFormsFit.{back_labelled}
use Rattle.std.specs.Prelude.{◌↔◌}
use Rattle.operad_ideals.specs.Ideals.{InIdeal}
use Rattle.operad_ideals.specs.HoleInstances.{InHoleIdeal}
use Rattle.operad_ideals.proofs.ArityOne.{only_zero}
use Rattle.operad_ideals.proofs.HoleInstances.{ideals_are_one}
use Rattle.shuffle_transfer.proofs.TransferLaw.{labelled-renamed, transfer_law}
use Rattle.shuffle_transfer.proofs.NormalForms.{normal_forms_by_lists, normal_trees_listed}
use Rattle.shuffle_transfer.proofs.NormalTrees.{order_of}

-- l(l(1,2),3) + l(l(2,3),1) + l(l(3,1),2)
abbrev pub jacobi_relation : Relation
jacobi_relation = record { arity = 3; terms = (1, t1) ∷ ((1, l (l (leaf 2) (leaf 3)) (leaf 1)) ∷ ((1, l (l (leaf 3) (leaf 1)) (leaf 2)) ∷ [])) }

abbrev pub lie : Presentation
lie = record { q = 100; generators = (record { kind = skew; size = 2 } ∷ []) ∷ []; relations = jacobi_relation ∷ [] }

-- ---- the labels

one_label_inputs : (g : ℕ) → inputs_of lie.generators g ≡ one_binary g
one_label_inputs zero = refl
one_label_inputs (suc g) = refl

pub same_setting : setting lie (compare lie.generators by_path) (jacobi ∷ []) ≡ bracket_setting
same_setting = ap (λ (a : ℕ → ℕ). record { arity = a; compare = compare lie.generators by_path; elements = jacobi ∷ []; q = 100 }) (fun_ext one_label_inputs)

pub wide : IsWide lie
wide zero h = omega arith
wide (suc g) h = absurd (omega (arith, h))

pub valid_at : (n : ℕ) (t : Tree ℕ) → has_by tree_discrete (all_trees (labels lie.generators) (inputs_of lie.generators) n) t ≡ true → IsShuffleTree (inputs_of lie.generators) n t
valid_at n t h = (listed (labels lie.generators) (inputs_of lie.generators) (are_labels lie wide) n).0.only t (has_by_mem tree_discrete (all_trees (labels lie.generators) (inputs_of lie.generators) n) t h)

pub valid_t1 : IsShuffleTree (inputs_of lie.generators) 3 t1
unfolding ℕ_discrete tree_discrete tree_discrete_by row_discrete_by same_leaf same_node same_more
valid_t1 = valid_at 3 t1 refl

valid_t2 : IsShuffleTree (inputs_of lie.generators) 3 t2
unfolding ℕ_discrete tree_discrete tree_discrete_by row_discrete_by same_leaf same_node same_more
valid_t2 = valid_at 3 t2 refl

valid_t3 : IsShuffleTree (inputs_of lie.generators) 3 t3
unfolding ℕ_discrete tree_discrete tree_discrete_by row_discrete_by same_leaf same_node same_more
valid_t3 = valid_at 3 t3 refl

-- ---- the relation

-- the permutations of 1 to 3
ordering : (v : List ℕ) → Mem v (orderings 3) → IsOrdering 3 v
ordering v m = ((all_orderings 3).2 v).0 m

labelled_t1 : IsLabelled (arity_of lie) 3 t1
labelled_t1 = back_labelled lie.generators 3 t1 valid_t1

pub sound : IsSound lie
sound r (inl e) = subst (λ x. AllTerms x.terms (IsLabelled (arity_of lie) x.arity)) (sym e) (
  labelled_t1,
  (labelled-renamed (arity_of lie) 3 (2 ∷ (3 ∷ (1 ∷ []))) (ordering (2 ∷ (3 ∷ (1 ∷ []))) (inr (inr (inr (inl refl))))) t1 labelled_t1, (labelled-renamed (arity_of lie) 3 (3 ∷ (1 ∷ (2 ∷ []))) (ordering (3 ∷ (1 ∷ (2 ∷ []))) (inr (inr (inr (inr (inl refl)))))) t1 labelled_t1, tt)),
)
sound r (inr m) = absurd m

-- the frame of a whole tree of arity 3
abbrev whole : Frame
whole = record { hole = leaf 0; inputs = leaf 1 ∷ (leaf 2 ∷ (leaf 3 ∷ [])) }

is_whole : IsFrame 3 whole
unfolding ℕ_discrete
is_whole = record { context = refl; as_many = refl; rising = (tt, omega arith, (tt, omega arith, (tt, tt, tt))) }

the_insertion : RelationInsertion lie 3
unfolding word_discrete same_cons letter_discrete same_letter ℕ_discrete
the_insertion = record {
  relation = jacobi_relation;
  there = inl refl;
  permutation = 1 ∷ (2 ∷ (3 ∷ []));
  permutes = ordering (1 ∷ (2 ∷ (3 ∷ []))) (inl refl);
  frame = whole;
  is_frame = is_whole;
  valid = (valid_t1, (valid_t3, (valid_t2, tt)));
}

jacobi_in_ideal : IsSumOfInsertions lie 3 (terms jacobi)
unfolding the_insertion word_discrete same_cons letter_discrete same_letter ℕ_discrete tree_discrete tree_discrete_by row_discrete_by same_leaf same_node same_more coef scale expand
jacobi_in_ideal = record { uses = (1, the_insertion) ∷ []; adds_up = same_if_agree tree_discrete 100 (terms jacobi) (expand (inserted_relation lie 3) ((1, the_insertion) ∷ [])) refl }

-- the relation itself, as a sum of insertions
the_relation : IsSumOfInsertions lie 3 (shuffled lie jacobi_relation.terms)
unfolding the_insertion word_discrete same_cons letter_discrete same_letter ℕ_discrete tree_discrete tree_discrete_by row_discrete_by same_leaf same_node same_more coef scale expand
the_relation = record { uses = (1, the_insertion) ∷ []; adds_up = same_if_agree tree_discrete 100 (shuffled lie jacobi_relation.terms) (expand (inserted_relation lie 3) ((1, the_insertion) ∷ [])) refl }

-- ---- the certificate

abbrev pub lie_setting : Setting
lie_setting = setting lie (compare lie.generators by_path) (jacobi ∷ [])

pub jacobi_monic : IsMonic lie_setting jacobi
unfolding ℕ_discrete
jacobi_monic = record { lead_valid = valid_t1; lead_node = tt; tail_valid = ((valid_t2, refl), ((valid_t3, refl), tt)) }

monic : AreMonic lie_setting
monic = record { each = each; apart = λ g h a b e. same g a ∙ sym (same h b) }
  where
    same : (g : Element) → Mem g (jacobi ∷ []) → g ≡ jacobi
    same g (inl e) = e
    same g (inr m) = absurd m

    each : (g : Element) → Mem g (jacobi ∷ []) → IsMonic lie_setting g
    each g m = subst (IsMonic lie_setting) (sym (same g m)) jacobi_monic

-- the element itself
the_element : Insertion lie_setting 3
unfolding ℕ_discrete tree_discrete tree_discrete_by row_discrete_by same_leaf same_node same_more
the_element = record { of = jacobi; member = inl refl; tree = t1; set = top_two; valid = valid_t1; place = ((places_listed t1 t1 tt).0 top_two).0 (inl refl) }

abbrev Relabelled : List ℕ → Type 0
Relabelled v = IsLinearCombination tree_discrete (value_of {s = lie_setting} {n = 3}) 100 (shuffled lie (relabelled v jacobi_relation.terms))

-- the relabelled relation is the element, or less the element
relabelled_ones : (Relabelled (1 ∷ (2 ∷ (3 ∷ [])))) × (Relabelled (2 ∷ (3 ∷ (1 ∷ [])))) × (Relabelled (3 ∷ (1 ∷ (2 ∷ []))))
unfolding the_element word_discrete same_cons letter_discrete same_letter ℕ_discrete tree_discrete tree_discrete_by row_discrete_by same_leaf same_node same_more coef scale expand
relabelled_ones = (
  record { uses = (1, the_element) ∷ []; adds_up = same_if_agree tree_discrete 100 (shuffled lie (relabelled (1 ∷ (2 ∷ (3 ∷ []))) jacobi_relation.terms)) (expand value_of ((1, the_element) ∷ [])) refl },
  record { uses = (1, the_element) ∷ []; adds_up = same_if_agree tree_discrete 100 (shuffled lie (relabelled (2 ∷ (3 ∷ (1 ∷ []))) jacobi_relation.terms)) (expand value_of ((1, the_element) ∷ [])) refl },
  record { uses = (1, the_element) ∷ []; adds_up = same_if_agree tree_discrete 100 (shuffled lie (relabelled (3 ∷ (1 ∷ (2 ∷ []))) jacobi_relation.terms)) (expand value_of ((1, the_element) ∷ [])) refl },
)

relabelled_minus : (Relabelled (1 ∷ (3 ∷ (2 ∷ [])))) × (Relabelled (2 ∷ (1 ∷ (3 ∷ [])))) × (Relabelled (3 ∷ (2 ∷ (1 ∷ []))))
unfolding the_element word_discrete same_cons letter_discrete same_letter ℕ_discrete tree_discrete tree_discrete_by row_discrete_by same_leaf same_node same_more coef scale expand
relabelled_minus = (
  record { uses = (100, the_element) ∷ []; adds_up = same_if_agree tree_discrete 100 (shuffled lie (relabelled (1 ∷ (3 ∷ (2 ∷ []))) jacobi_relation.terms)) (expand value_of ((100, the_element) ∷ [])) refl },
  record { uses = (100, the_element) ∷ []; adds_up = same_if_agree tree_discrete 100 (shuffled lie (relabelled (2 ∷ (1 ∷ (3 ∷ []))) jacobi_relation.terms)) (expand value_of ((100, the_element) ∷ [])) refl },
  record { uses = (100, the_element) ∷ []; adds_up = same_if_agree tree_discrete 100 (shuffled lie (relabelled (3 ∷ (2 ∷ (1 ∷ []))) jacobi_relation.terms)) (expand value_of ((100, the_element) ∷ [])) refl },
)

relabelled_by : (v : List ℕ) → Mem v (orderings 3) → Relabelled v
relabelled_by v (inl e) = subst Relabelled (sym e) relabelled_ones.0
relabelled_by v (inr (inl e)) = subst Relabelled (sym e) relabelled_minus.0
relabelled_by v (inr (inr (inl e))) = subst Relabelled (sym e) relabelled_minus.1
relabelled_by v (inr (inr (inr (inl e)))) = subst Relabelled (sym e) relabelled_ones.1
relabelled_by v (inr (inr (inr (inr (inl e))))) = subst Relabelled (sym e) relabelled_ones.2
relabelled_by v (inr (inr (inr (inr (inr (inl e)))))) = subst Relabelled (sym e) relabelled_minus.2
relabelled_by v (inr (inr (inr (inr (inr (inr m)))))) = absurd m

pub certified : IsGroebnerBasis lie (compare lie.generators by_path) (jacobi ∷ []) 4
certified = record {
  monic = monic;
  once = (λ m. m, tt);
  in_ideal = in_ideal;
  relations = relations;
  s_elements = subst (λ s. SElementsReduce s 4) (sym same_setting) reduces;
}
  where
    in_ideal : (g : Element) → Mem g (jacobi ∷ []) → IsSumOfInsertions lie g.arity (terms g)
    in_ideal g (inl e) = subst (λ x. IsSumOfInsertions lie x.arity (terms x)) (sym e) jacobi_in_ideal
    in_ideal g (inr m) = absurd m

    relations : (r : Relation) → Mem r (jacobi_relation ∷ []) → r.arity ≤ 4 → (v : List ℕ) → Mem v (orderings r.arity)
        → IsLinearCombination tree_discrete (value_of {s = lie_setting} {n = r.arity}) 100 (shuffled lie (relabelled v r.terms))
    relations r (inl e) le v m = subst (λ x. (v : List ℕ) → Mem v (orderings x.arity) → IsLinearCombination tree_discrete (value_of {s = lie_setting} {n = x.arity}) 100 (shuffled lie (relabelled v x.terms))) (sym e) relabelled_by v m
    relations r (inr i) le v m = absurd i

-- ---- the law at this presentation

-- a tree of arity 3 is in the ideal where its shuffle form is a sum of insertions of the relation
pub lie_transfer : (e : List (ℕ × Tree ℕ)) → AllTerms e (IsLabelled (arity_of lie) 3) → InIdeal lie 3 e ↔ IsSumOfInsertions lie 3 (shuffled lie e)
lie_transfer e h = transfer_law lie 3 e sound h

-- the ideal, by contexts that are trees and by contexts with a hole
pub lie_one_ideal : (n : ℕ) (e : List (ℕ × Tree ℕ)) → InIdeal lie n e ↔ InHoleIdeal lie n e
lie_one_ideal n e = ideals_are_one lie n e sound

-- in arity one the ideal holds zero alone
pub lie_arity_one : (e : List (ℕ × Tree ℕ)) → InIdeal lie 1 e → Same tree_discrete 100 e []
lie_arity_one = only_zero lie sound proper
  where
    proper : IsProper lie
    proper r (inl e) = subst (λ x. (x.terms ≡ []) ⊎ (2 ≤ x.arity)) (sym e) (inr (omega arith))
    proper r (inr m) = absurd m

-- the relation is in the ideal
pub relation_in_ideal : InIdeal lie 3 jacobi_relation.terms
relation_in_ideal = (lie_transfer jacobi_relation.terms (sound jacobi_relation (inl refl))).1 the_relation

pub lie_normal : (n : ℕ) → n ≤ 4 → NormalLaw lie (compare lie.generators by_path) n (normal_list lie.generators (jacobi ∷ []) n)
lie_normal n le =
    let k = normal_trees_listed lie sound wide (omega arith) (compare lie.generators by_path) (order_of lie.generators by_path) (jacobi ∷ []) 4 certified n le in
    k.1 (normal_list lie.generators (jacobi ∷ []) n) k.0

-- the same from what the list is
lie_by_list : NormalLaw lie (compare lie.generators by_path) 3 (normal_list lie.generators (jacobi ∷ []) 3)
lie_by_list = let k = lie_normal 3 (omega arith) in normal_forms_by_lists lie (compare lie.generators by_path) 3 (normal_list lie.generators (jacobi ∷ []) 3) k.normal k.independent k.spanning

-- the normal trees of arity 3: l(l(1,3),2) and l(1,l(2,3))
pub two_normal : normal_list lie.generators (jacobi ∷ []) 3 ≡ t2 ∷ (t3 ∷ [])
unfolding ℕ_discrete tree_discrete tree_discrete_by row_discrete_by same_leaf same_node same_more
two_normal = refl

-- and the six of arity 4
six_normal : normal_list lie.generators (jacobi ∷ []) 4 ≡
    l (l (l (leaf 1) (leaf 4)) (leaf 3)) (leaf 2) ∷ (l (l (leaf 1) (l (leaf 3) (leaf 4))) (leaf 2) ∷ (l (l (leaf 1) (leaf 3)) (l (leaf 2) (leaf 4))
    ∷ (l (l (leaf 1) (leaf 4)) (l (leaf 2) (leaf 3)) ∷ (l (leaf 1) (l (l (leaf 2) (leaf 4)) (leaf 3)) ∷ (l (leaf 1) (l (leaf 2) (l (leaf 3) (leaf 4))) ∷ [])))))
unfolding ℕ_discrete tree_discrete tree_discrete_by row_discrete_by same_leaf same_node same_more
six_normal = refl
