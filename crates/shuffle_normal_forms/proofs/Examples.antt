-- An example: the Jacobi element over one binary label, its free trees and the laws for it, through arity 4.
use Rattle.std.proofs.Common.{◌≡◌, ℕ, ◌≤◌, List, [], ◌∷◌, refl, sym, subst, inl, inr, arith}
use native.Mathlib.Decide.{ℕ_discrete}
use Rattle.modular_sums.specs.Lists.{Mem}
use Rattle.modular_sums.specs.Sums.{coef, scale, expand, AllTerms, Same}
use Rattle.modular_sums.proofs.Sameness.{same_if_agree}
use mathlib.Core.List.{◌++◌}
use Rattle.labelled_trees.specs.Trees.{Tree, leaf}
use Rattle.labelled_trees.specs.Equality.{same_leaf, same_node, same_more, tree_discrete_by, row_discrete_by, tree_discrete}
use Rattle.shuffle_insertions.specs.ShuffleTrees.{IsShuffleTree}
use Rattle.shuffle_insertions.proofs.Examples.{valid_at, by_path, l, t1, t2, t3, one_binary, one_label}
use Rattle.shuffle_places.proofs.Laws.{places_listed}
use Rattle.shuffle_places.proofs.Examples.{top_two}
use Rattle.shuffle_bases.specs.Elements.{Insertion, value_of}
use Rattle.shuffle_bases.proofs.Examples.{jacobi, setting, reduces, monic}
use Rattle.shuffle_normal_forms.specs.FreeTrees.{IsFree, IsFreeTree, free_trees}
use Rattle.shuffle_normal_forms.specs.NormalForms.{InSpan, IsShuffleNormalForm, LeadsNone, IsAtMost}
use Rattle.shuffle_normal_forms.proofs.Laws.{all_listed, independent, spanning, lead_none, one_form}

-- ---- the free trees

two_free : free_trees 1 setting 3 ≡ t2 ∷ (t3 ∷ [])
unfolding ℕ_discrete tree_discrete tree_discrete_by row_discrete_by same_leaf same_node same_more
two_free = refl

six_free : free_trees 1 setting 4 ≡
    l (l (l (leaf 1) (leaf 4)) (leaf 3)) (leaf 2) ∷ (l (l (leaf 1) (l (leaf 3) (leaf 4))) (leaf 2)
    ∷ (l (l (leaf 1) (leaf 3)) (l (leaf 2) (leaf 4)) ∷ (l (l (leaf 1) (leaf 4)) (l (leaf 2) (leaf 3))
    ∷ (l (leaf 1) (l (l (leaf 2) (leaf 4)) (leaf 3)) ∷ (l (leaf 1) (l (leaf 2) (l (leaf 3) (leaf 4))) ∷ [])))))
unfolding ℕ_discrete tree_discrete tree_discrete_by row_discrete_by same_leaf same_node same_more
six_free = refl

-- ---- the laws at this setting

pub listed_of_jacobi : (n : ℕ) (t : Tree ℕ) → (Mem t (free_trees 1 setting n) → IsFreeTree setting n t) × (IsFreeTree setting n t → Mem t (free_trees 1 setting n))
listed_of_jacobi n t = (all_listed 1 setting one_label monic n).1 t

pub independent_of_jacobi : (n : ℕ) → n ≤ 4 → (e : List (ℕ × Tree ℕ)) → AllTerms e (IsFreeTree setting n) → InSpan setting n e → Same tree_discrete 100 e []
independent_of_jacobi n le = independent 1 setting one_label by_path monic 4 n reduces le

pub spanning_of_jacobi : (n : ℕ) (t : Tree ℕ) → IsShuffleTree one_binary n t
    → (f : List (ℕ × Tree ℕ)) × IsShuffleNormalForm setting n ((1, t) ∷ []) f × AllTerms f (λ u. IsAtMost setting u t)
spanning_of_jacobi n = (spanning 1 setting one_label by_path monic n).0

pub free_of_jacobi : (n : ℕ) → n ≤ 4 → (t : Tree ℕ) → IsShuffleTree one_binary n t → (IsFree setting t → LeadsNone setting n t) × (LeadsNone setting n t → IsFree setting t)
free_of_jacobi n le t h = (
  λ f. (lead_none 1 setting one_label by_path monic).0 4 n reduces le t h f,
  λ none. (lead_none 1 setting one_label by_path monic).1 (omega arith) n t h none,
)

pub one_form_of_jacobi : (n : ℕ) → n ≤ 4 → (e : List (ℕ × Tree ℕ)) → AllTerms e (IsShuffleTree one_binary n)
    → (f : List (ℕ × Tree ℕ)) × IsShuffleNormalForm setting n e f × ((g : List (ℕ × Tree ℕ)) → IsShuffleNormalForm setting n e g → Same tree_discrete 100 f g)
one_form_of_jacobi n le = (one_form 1 setting one_label by_path monic 4 n reduces le).0

-- ---- a normal form: that of t1 is t2 + t3

abbrev sum_of_two : List (ℕ × Tree ℕ)
sum_of_two = (1, t2) ∷ ((1, t3) ∷ [])

whole : Insertion setting 3
unfolding ℕ_discrete tree_discrete tree_discrete_by row_discrete_by same_leaf same_node same_more
whole = record { of = jacobi; member = inl refl; tree = t1; set = top_two; valid = valid_at 3 t1 refl; place = ((places_listed t1 t1 tt).0 top_two).0 (inl refl) }

pub free_at : (t : Tree ℕ) → Mem t (t2 ∷ (t3 ∷ [])) → IsFreeTree setting 3 t
free_at t m = (listed_of_jacobi 3 t).0 (subst (Mem t) (sym two_free) m)

form_of_t1 : IsShuffleNormalForm setting 3 ((1, t1) ∷ []) sum_of_two
unfolding whole ℕ_discrete tree_discrete tree_discrete_by row_discrete_by same_leaf same_node same_more coef scale expand
form_of_t1 = record {
  on_free = (free_at t2 (inl refl), (free_at t3 (inr (inl refl)), tt));
  rest = record {
    uses = (1, whole) ∷ [];
    adds_up = same_if_agree tree_discrete 100 (((1, t1) ∷ []) ++ scale 100 sum_of_two) (expand value_of ((1, whole) ∷ [])) refl;
  };
}
