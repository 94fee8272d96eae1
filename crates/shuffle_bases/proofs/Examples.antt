-- An example: one element over one binary label, its S-element, its reduction and the diamond lemma for it.
use Rattle.std.proofs.Common.{arith, zero, suc, ◌⊎◌, ◌≤◌, ◌≡◌, ℕ, List, [], ◌∷◌, true, refl, sym, ◌∙◌, subst, inl, inr}
use mathlib.Core.List.{◌++◌}
use native.Mathlib.Decide.{ℕ_discrete}
use Rattle.modular_sums.specs.Lists.{Mem, has_by}
use Rattle.modular_sums.specs.Sums.{coef, scale, expand, Same}
use Rattle.modular_sums.proofs.Sameness.{same_if_agree}
use Rattle.labelled_trees.specs.Trees.{Tree, leaf}
use Rattle.labelled_trees.specs.Equality.{same_leaf, same_node, same_more, tree_discrete_by, row_discrete_by, tree_discrete}
use Rattle.shuffle_insertions.specs.Keys.{key, path}
use Rattle.shuffle_insertions.specs.Listing.{all_trees}
use Rattle.shuffle_insertions.proofs.Examples.{by_path, valid_at, comb, l, t1, t2, t3, no_weight, one_binary, one_label}
use Rattle.shuffle_places.specs.AllPlaces.{places}
use Rattle.shuffle_places.proofs.Laws.{multiples_listed, places_listed}
use Rattle.shuffle_places.proofs.Examples.{multiples_of_t1, comb_multiple, top_two, lower_two}
use Rattle.shuffle_bases.proofs.Laws.{diamond, stand}
use Rattle.shuffle_bases.specs.Elements.{Element, Setting, IsMonic, AreMonic, Insertion, value_of, s_element}
use Rattle.shuffle_bases.specs.Reductions.{IsLed, SElementsReduce, ReducesBelow}
use Rattle.shuffle_places.specs.Multiples.{IsMultiple}
use Rattle.shuffle_places.specs.Overlays.{one_unit, shape_discrete}
use Rattle.shuffle_places.specs.AllMultiples.{multiples}

-- t1 - t2 - t3, modulo 101
abbrev pub jacobi : Element
jacobi = record { arity = 3; lead = t1; tail = (100, t2) ∷ ((100, t3) ∷ []) }

-- one binary label, ordered by path, and the one element
abbrev pub setting : Setting
setting = record { arity = one_binary; compare = λ x y. path (key no_weight x) (key no_weight y); elements = jacobi ∷ []; q = 100 }

-- ---- the S-element at the one small common multiple of t1 with itself

-- -l(l(1,2),l(3,4)) + l(l(1,l(2,3)),4) - l(l(l(1,2),4),3) + l(l(l(1,3),2),4)
abbrev four_terms : List (ℕ × Tree ℕ)
four_terms =
    (100, l (l (leaf 1) (leaf 2)) (l (leaf 3) (leaf 4))) ∷ ((1, l (l (leaf 1) (l (leaf 2) (leaf 3))) (leaf 4))
    ∷ ((100, l (l (l (leaf 1) (leaf 2)) (leaf 4)) (leaf 3)) ∷ ((1, l (l (l (leaf 1) (leaf 3)) (leaf 2)) (leaf 4)) ∷ [])))

s_of_jacobi : Same tree_discrete 100 (s_element 100 jacobi jacobi comb top_two lower_two) four_terms
unfolding ℕ_discrete tree_discrete tree_discrete_by row_discrete_by same_leaf same_node same_more coef scale
s_of_jacobi = same_if_agree tree_discrete 100 (s_element 100 jacobi jacobi comb top_two lower_two) four_terms refl

-- ---- shuffle trees and places, found in their lists

jacobi_monic : IsMonic setting jacobi
unfolding ℕ_discrete tree_discrete tree_discrete_by row_discrete_by same_leaf same_node same_more
jacobi_monic = record {
  lead_valid = valid_at 3 t1 refl;
  lead_node = tt;
  tail_valid = ((valid_at 3 t2 refl, refl), ((valid_at 3 t3 refl, refl), tt));
}

pub monic : AreMonic setting
monic = record {
  each = each;
  apart = λ g h a b e. same g a ∙ sym (same h b);
}
  where
    same : (g : Element) → Mem g (jacobi ∷ []) → g ≡ jacobi
    same g (inl e) = e
    same g (inr m) = absurd m

    each : (g : Element) → Mem g (jacobi ∷ []) → IsMonic setting g
    each g m = subst (IsMonic setting) (sym (same g m)) jacobi_monic

-- the element inserted at a listed place of a tree of arity 4
abbrev at : (t : Tree ℕ) (set : List ℕ) → has_by tree_discrete (all_trees 1 one_binary 4) t ≡ true → Mem set (places t1 1 t) → Insertion setting 4
at t set h m = record { of = jacobi; member = inl refl; tree = t; set = set; valid = valid_at 4 t h; place = ((places_listed t1 t tt).0 set).0 m }

-- ---- the S-element reduces: the certificate, line by line

certificate : List (ℕ × Insertion setting 4)
unfolding ℕ_discrete tree_discrete tree_discrete_by row_discrete_by same_leaf same_node same_more
certificate =
    (100, at (l (l (l (leaf 1) (leaf 2)) (leaf 4)) (leaf 3)) lower_two refl (inl refl))
    ∷ ((100, at (l (l (leaf 1) (leaf 2)) (l (leaf 3) (leaf 4))) top_two refl (inl refl))
    ∷ ((1, at (l (l (l (leaf 1) (leaf 3)) (leaf 2)) (leaf 4)) top_two refl (inl refl))
    ∷ ((1, at (l (l (leaf 1) (l (leaf 2) (leaf 3))) (leaf 4)) top_two refl (inl refl))
    ∷ ((100, at (l (l (l (leaf 1) (leaf 4)) (leaf 2)) (leaf 3)) top_two refl (inl refl))
    ∷ ((100, at (l (l (leaf 1) (l (leaf 2) (leaf 4))) (leaf 3)) top_two refl (inl refl))
    ∷ ((1, at (l (l (l (leaf 1) (leaf 3)) (leaf 4)) (leaf 2)) lower_two refl (inl refl))
    ∷ ((1, at (l (leaf 1) (l (l (leaf 2) (leaf 3)) (leaf 4))) lower_two refl (inl refl)) ∷ [])))))))

-- each tree of the certificate is less than the small common multiple, and the insertions add up to the S-element
certified : ReducesBelow setting 4 comb (s_element 100 jacobi jacobi comb top_two lower_two)
unfolding certificate ℕ_discrete tree_discrete tree_discrete_by row_discrete_by same_leaf same_node same_more coef scale expand
certified = record {
  uses = certificate;
  lower = (refl, (refl, (refl, (refl, (refl, (refl, (refl, (refl, tt))))))));
  adds_up = same_if_agree tree_discrete 100 (s_element 100 jacobi jacobi comb top_two lower_two) (expand value_of certificate) refl;
}

-- ---- there is no other small common multiple up to arity 4

abbrev Triple : Type 0
Triple = Tree ℕ × List ℕ × List ℕ

none_0 : multiples t1 t1 0 ≡ []
unfolding ℕ_discrete tree_discrete tree_discrete_by row_discrete_by same_leaf same_node same_more shape_discrete one_unit
none_0 = refl

none_1 : multiples t1 t1 1 ≡ []
unfolding ℕ_discrete tree_discrete tree_discrete_by row_discrete_by same_leaf same_node same_more shape_discrete one_unit
none_1 = refl

none_2 : multiples t1 t1 2 ≡ []
unfolding ℕ_discrete tree_discrete tree_discrete_by row_discrete_by same_leaf same_node same_more shape_discrete one_unit
none_2 = refl

none_3 : multiples t1 t1 3 ≡ []
unfolding ℕ_discrete tree_discrete tree_discrete_by row_discrete_by same_leaf same_node same_more shape_discrete one_unit
none_3 = refl

none_here : (m : ℕ) (t : Tree ℕ) (first second : List ℕ) → IsMultiple m t1 t1 t first second → multiples t1 t1 m ≡ [] → ⊥
none_here m t first second h e = subst (Mem {X = Triple} (t, first, second)) e (((multiples_listed t1 t1 m tt tt).0 t first second).1 h)

abbrev Reduces : ℕ → Tree ℕ → List ℕ → List ℕ → Type 0
Reduces m t first second = ReducesBelow setting m t (s_element 100 jacobi jacobi t first second)

only_one : (t : Tree ℕ) (first second : List ℕ) → Mem {X = Triple} (t, first, second) ((comb, top_two, lower_two) ∷ []) → Reduces 4 t first second
only_one t first second (inl e) = subst (λ (x : Triple). Reduces 4 x.0 x.1 x.2) (sym e) certified
only_one t first second (inr m) = absurd m

row : (m : ℕ) → m ≤ 4 → (t : Tree ℕ) (first second : List ℕ) → IsMultiple m t1 t1 t first second → Reduces m t first second
row zero le t first second h = absurd (none_here 0 t first second h none_0)
row (suc zero) le t first second h = absurd (none_here 1 t first second h none_1)
row (suc (suc zero)) le t first second h = absurd (none_here 2 t first second h none_2)
row (suc (suc (suc zero))) le t first second h = absurd (none_here 3 t first second h none_3)
row (suc (suc (suc (suc zero)))) le t first second h =
    only_one t first second (subst (Mem {X = Triple} (t, first, second)) multiples_of_t1 (((multiples_listed t1 t1 4 tt tt).0 t first second).1 h))
row (suc (suc (suc (suc (suc m))))) le t first second h = absurd (omega (arith, le))

pub reduces : SElementsReduce setting 4
reduces m le g h o t first second mult = go g h (pair o) mult
  where
    pair : ((g ≡ jacobi) × Mem h (jacobi ∷ [])) ⊎ ⊥ → (g ≡ jacobi) × (h ≡ jacobi)
    pair (inl p) = (p.0, lone p.1)
      where
        lone : Mem h (jacobi ∷ []) → h ≡ jacobi
        lone (inl e) = e
        lone (inr n) = absurd n
    pair (inr n) = absurd n

    go : (x y : Element) → (x ≡ jacobi) × (y ≡ jacobi) → IsMultiple m x.lead y.lead t first second → ReducesBelow setting m t (s_element 100 x y t first second)
    go x y p k = subst (λ z. ReducesBelow setting m t (s_element 100 z y t first second)) (sym p.0)
        (subst (λ z. ReducesBelow setting m t (s_element 100 jacobi z t first second)) (sym p.1)
        (row m le t first second (subst (λ z. IsMultiple m t1 z.lead t first second) p.1 (subst (λ z. IsMultiple m z.lead y.lead t first second) p.0 k))))

-- ---- the laws at this setting

-- each sum of insertions of arity 4 is zero or is led by an insertion
pub diamond_of_jacobi : (uses : List (ℕ × Insertion setting 4)) → Same tree_discrete 100 (expand value_of uses) [] ⊎ IsLed setting 4 (expand value_of uses)
diamond_of_jacobi = diamond 1 setting one_label by_path monic 4 4 reduces (omega arith)

-- the S-element is the difference of two insertions in the comb
jacobi_stands : (i : Insertion setting 4) × (j : Insertion setting 4) × (i.tree ≡ comb) × (j.tree ≡ comb)
    × (s_element 100 jacobi jacobi comb top_two lower_two ≡ value_of i ++ scale 100 (value_of j))
jacobi_stands = stand setting monic 4 jacobi jacobi (inl refl) (inl refl) comb top_two lower_two comb_multiple
