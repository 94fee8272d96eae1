-- Maps from the operad of Lie algebras: the commutator into that of pre-Lie algebras is a morphism, and the bare product isn't.
use Rattle.std.proofs.Common.{◌≡◌, inl, inr, ℕ, zero, suc, ◌<◌, ◌≤◌, ◌+◌, List, [], ◌∷◌, get_or, map, refl, sym, ap, ◌∙◌, subst, arith}
use Rattle.std.specs.Prelude.{flat_map}
use native.Mathlib.Decide.{ℕ_discrete, dec_lt}
use Rattle.modular_sums.specs.Lists.{Mem}
use Rattle.modular_sums.specs.Sums.{coef, scale, expand, moved, Same, AllTerms}
use Rattle.modular_sums.proofs.Sameness.{same_if_agree}
use Rattle.labelled_trees.specs.Trees.{Tree, leaf, node, none, more, graft, map_tree}
use Rattle.labelled_trees.specs.Leaves.{occurs, leaf_count}
use Rattle.labelled_trees.specs.Insertions.{put, item}
use Rattle.labelled_trees.specs.Labelled.{Fits, IsLabelled}
use Rattle.labelled_trees.specs.Equality.{same_leaf, same_node, same_more, tree_discrete_by, row_discrete_by, tree_discrete}
use Rattle.labelled_trees.proofs.GraftLeaves.{graft_ext}
use Rattle.labelled_trees.proofs.Grafts.{graft_leaf}
use Rattle.labelled_trees.proofs.Leaves.{one_if-yes, one_if-no, by_leaf}
use Rattle.labelled_trees.proofs.Counts.{only_within}
use Rattle.operad_ideals.specs.Parts.{symmetric, skew, free, Sign, plus, minus, InOnePart}
use Rattle.operad_ideals.specs.Presentations.{Relation, Presentation, parts, arity_of, IsWide, IsSound, without_relations}
use Rattle.operad_ideals.specs.Rules.{Rule, relation, symmetry}
use Rattle.operad_ideals.specs.Ideals.{placed, Instance, element, InIdeal}
use Rattle.operad_morphisms.specs.Compositions.{product, composed}
use Rattle.operad_morphisms.specs.Images.{image, image_sum, composite, identity}
use Rattle.operad_morphisms.specs.Maps.{IsMap, AreMet, SendsIdeal}
use Rattle.operad_morphisms.specs.Obligations.{swap, rel, obligations, obligation_arity, obligation_terms}
use Rattle.operad_morphisms.proofs.Composing.{images_compose}
use Rattle.operad_morphisms.proofs.Composites.{maps_compose}
use Rattle.operad_morphisms.proofs.Identities.{identity_law}
use Rattle.operad_morphisms.proofs.ImageSums.{images_of_labelled_trees}
use Rattle.operad_morphisms.proofs.Morphisms.{rule_in_ideal, morphism_law}
use Rattle.operad_ideals.proofs.PlacedIdeals.{placed_in_ideal}

abbrev two : Tree ℕ → Tree ℕ → Tree ℕ
two t u = node 0 (more t (more u none))

-- (ab)c and a(bc)
abbrev left : ℕ → ℕ → ℕ → Tree ℕ
left a b c = two (two (leaf a) (leaf b)) (leaf c)

abbrev right : ℕ → ℕ → ℕ → Tree ℕ
right a b c = two (leaf a) (two (leaf b) (leaf c))

-- modulo 101: a skew bracket with l(l(1,2),3) + l(l(2,3),1) + l(l(3,1),2)
abbrev jacobi : Relation
jacobi = record { arity = 3; terms = (1, left 1 2 3) ∷ ((1, left 2 3 1) ∷ ((1, left 3 1 2) ∷ [])) }

abbrev lie : Presentation
lie = record { q = 100; generators = (record { kind = skew; size = 2 } ∷ []) ∷ []; relations = jacobi ∷ [] }

-- a product with p(p(1,2),3) - p(1,p(2,3)) - p(p(1,3),2) + p(1,p(3,2))
abbrev symmetric_associator : Relation
symmetric_associator = record { arity = 3; terms = (1, left 1 2 3) ∷ ((100, right 1 2 3) ∷ ((100, left 1 3 2) ∷ ((1, right 1 3 2) ∷ []))) }

abbrev pre_lie : Presentation
pre_lie = record { q = 100; generators = (record { kind = free; size = 2 } ∷ []) ∷ []; relations = symmetric_associator ∷ [] }

-- the bracket is sent to p(1,2) - p(2,1), or to p(1,2)
abbrev commutator : List (List (ℕ × Tree ℕ))
commutator = ((1, two (leaf 1) (leaf 2)) ∷ ((100, two (leaf 2) (leaf 1)) ∷ [])) ∷ []

abbrev product_alone : List (List (ℕ × Tree ℕ))
product_alone = ((1, two (leaf 1) (leaf 2)) ∷ []) ∷ []

-- ---- images and obligations, computed

image_of_turned : image product_alone (two (leaf 2) (leaf 1)) ≡ (1, two (leaf 2) (leaf 1)) ∷ []
image_of_turned = refl

image_of_double : image commutator (left 1 2 3) ≡ (1, left 1 2 3) ∷ ((100, left 2 1 3) ∷ ((100, right 3 1 2) ∷ ((10000, right 3 2 1) ∷ [])))
image_of_double = refl

-- leaves keep their numbers, also in a context
image_of_context : image commutator (two (leaf 0) (leaf 7)) ≡ (1, two (leaf 0) (leaf 7)) ∷ ((100, two (leaf 7) (leaf 0)) ∷ [])
image_of_context = refl

two_obligations : obligations lie ≡ swap 0 1 minus ∷ (rel 1 ∷ [])
two_obligations = refl

-- a skew bracket, an operation whose last three inputs may change places, and two relations, the first without terms
abbrev mixed : Presentation
mixed = record {
  q = 100;
  generators = (record { kind = skew; size = 2 } ∷ []) ∷ ((record { kind = free; size = 1 } ∷ (record { kind = symmetric; size = 3 } ∷ [])) ∷ []);
  relations = record { arity = 3; terms = [] } ∷ (jacobi ∷ []);
}

mixed_obligations : obligations mixed ≡ swap 0 1 minus ∷ (swap 1 2 plus ∷ (swap 1 3 plus ∷ (rel 2 ∷ [])))
mixed_obligations = refl

-- the second input and the third in each other's place, and the second relation
mixed_swap : obligation_terms mixed (swap 1 2 plus)
    ≡ (1, node 1 (more (leaf 1) (more (leaf 2) (more (leaf 3) (more (leaf 4) none))))) ∷ ((100, node 1 (more (leaf 1) (more (leaf 3) (more (leaf 2) (more (leaf 4) none))))) ∷ [])
mixed_swap = refl

mixed_relation : obligation_terms mixed (rel 2) ≡ jacobi.terms
mixed_relation = refl

-- ---- labels

once_each : (t : Tree ℕ) → occurs 1 t ≡ 1 → occurs 2 t ≡ 1 → occurs 3 t ≡ 1 → (i : ℕ) → 0 < i → i ≤ 3 → occurs i t ≡ 1
once_each t a b c zero low high = absurd (omega (arith, low))
once_each t a b c (suc zero) low high = a
once_each t a b c (suc (suc zero)) low high = b
once_each t a b c (suc (suc (suc zero))) low high = c
once_each t a b c (suc (suc (suc (suc i)))) low high = absurd (omega (arith, high))

three_leaves : (arity : ℕ → ℕ) (t : Tree ℕ) → Fits arity t → leaf_count t ≡ 3 → occurs 1 t ≡ 1 → occurs 2 t ≡ 1 → occurs 3 t ≡ 1 → IsLabelled arity 3 t
three_leaves arity t f n a b c = record { fits = f; each = once_each t a b c; only = only_within 3 t n (once_each t a b c) }

once_of_two : (t : Tree ℕ) → occurs 1 t ≡ 1 → occurs 2 t ≡ 1 → (i : ℕ) → 0 < i → i ≤ 2 → occurs i t ≡ 1
once_of_two t a b zero low high = absurd (omega (arith, low))
once_of_two t a b (suc zero) low high = a
once_of_two t a b (suc (suc zero)) low high = b
once_of_two t a b (suc (suc (suc i))) low high = absurd (omega (arith, high))

two_leaves : (arity : ℕ → ℕ) (t : Tree ℕ) → Fits arity t → leaf_count t ≡ 2 → occurs 1 t ≡ 1 → occurs 2 t ≡ 1 → IsLabelled arity 2 t
two_leaves arity t f n a b = record { fits = f; each = once_of_two t a b; only = only_within 2 t n (once_of_two t a b) }

-- one generator of arity two
fits_left : (arity : ℕ → ℕ) → arity 0 ≡ 2 → (a b c : ℕ) → Fits arity (left a b c)
fits_left arity e a b c = (omega (arith, e), sym e, ((omega (arith, e), sym e, (tt, (tt, tt))), (tt, tt)))

fits_right : (arity : ℕ → ℕ) → arity 0 ≡ 2 → (a b c : ℕ) → Fits arity (right a b c)
fits_right arity e a b c = (omega (arith, e), sym e, (tt, ((omega (arith, e), sym e, (tt, (tt, tt))), tt)))

fits_two : (arity : ℕ → ℕ) → arity 0 ≡ 2 → (a b : ℕ) → Fits arity (two (leaf a) (leaf b))
fits_two arity e a b = (omega (arith, e), sym e, (tt, (tt, tt)))

lie_sound : IsSound lie
unfolding ℕ_discrete
lie_sound r (inl e) = subst (λ x. AllTerms x.terms (IsLabelled (arity_of lie) x.arity)) (sym e) (
  three_leaves (arity_of lie) (left 1 2 3) (fits_left (arity_of lie) refl 1 2 3) refl refl refl refl,
  (three_leaves (arity_of lie) (left 2 3 1) (fits_left (arity_of lie) refl 2 3 1) refl refl refl refl, (three_leaves (arity_of lie) (left 3 1 2) (fits_left (arity_of lie) refl 3 1 2) refl refl refl refl, tt)),
)
lie_sound r (inr m) = absurd m

-- the trees of the relation with the leaves a, b and c
associator_labelled : (arity : ℕ → ℕ) → arity 0 ≡ 2 → AllTerms symmetric_associator.terms (IsLabelled arity 3)
unfolding ℕ_discrete
associator_labelled arity e = (
  three_leaves arity (left 1 2 3) (fits_left arity e 1 2 3) refl refl refl refl,
  (
    three_leaves arity (right 1 2 3) (fits_right arity e 1 2 3) refl refl refl refl,
    (three_leaves arity (left 1 3 2) (fits_left arity e 1 3 2) refl refl refl refl, (three_leaves arity (right 1 3 2) (fits_right arity e 1 3 2) refl refl refl refl, tt)),
  ),
)

pre_lie_sound : IsSound pre_lie
pre_lie_sound r (inl e) = subst (λ x. AllTerms x.terms (IsLabelled (arity_of pre_lie) x.arity)) (sym e) (associator_labelled (arity_of pre_lie) refl)
pre_lie_sound r (inr m) = absurd m

-- the images of the bracket fit a product
of_generator : (images : List (List (ℕ × Tree ℕ))) → AllTerms (get_or images 0 []) (IsLabelled (arity_of pre_lie) 2) → (g : ℕ) → g < 1 → AllTerms (get_or images g []) (IsLabelled (arity_of pre_lie) (arity_of lie g))
of_generator images h zero l = h
of_generator images h (suc g) l = absurd (omega (arith, l))

one_two : IsLabelled (arity_of pre_lie) 2 (two (leaf 1) (leaf 2))
unfolding ℕ_discrete
one_two = two_leaves (arity_of pre_lie) (two (leaf 1) (leaf 2)) (fits_two (arity_of pre_lie) refl 1 2) refl refl refl

two_one : IsLabelled (arity_of pre_lie) 2 (two (leaf 2) (leaf 1))
unfolding ℕ_discrete
two_one = two_leaves (arity_of pre_lie) (two (leaf 2) (leaf 1)) (fits_two (arity_of pre_lie) refl 2 1) refl refl refl

-- ---- the commutator is a morphism

commutator_map : IsMap lie pre_lie commutator
commutator_map = record { one_prime = refl; one_each = refl; labelled = of_generator commutator (one_two, (two_one, tt)) }

not_zero : (a : ℕ) → 0 < a → occurs 0 (leaf a) ≡ 0
not_zero a l = one_if-no (ℕ_discrete a 0) (λ e. omega (arith, l, e))

-- the relation with the leaves a, b and c
renamed : (a b c : ℕ) → 0 < a → 0 < b → 0 < c
    → AllTerms ((1, left a b c) ∷ ((100, right a b c) ∷ ((100, left a c b) ∷ ((1, right a c b) ∷ [])))) (IsLabelled (arity_of pre_lie) 3) → Instance pre_lie 3
unfolding ℕ_discrete
renamed a b c x y z h = record {
  residue = 1;
  context = leaf 0;
  rule = relation symmetric_associator (inl refl);
  inputs = leaf a ∷ (leaf b ∷ (leaf c ∷ []));
  is_context = refl;
  as_many = refl;
  no_zero = none_zero;
  labelled = h;
}
  where
    none_zero : (t : Tree ℕ) → Mem t (leaf a ∷ (leaf b ∷ (leaf c ∷ []))) → occurs 0 t ≡ 0
    none_zero t (inl e) = ap (occurs 0) e ∙ not_zero a x
    none_zero t (inr (inl e)) = ap (occurs 0) e ∙ not_zero b y
    none_zero t (inr (inr (inl e))) = ap (occurs 0) e ∙ not_zero c z
    none_zero t (inr (inr (inr m))) = absurd m

at_123 : Instance pre_lie 3
at_123 = renamed 1 2 3 (omega arith) (omega arith) (omega arith) (associator_labelled (arity_of pre_lie) refl)

at_231 : Instance pre_lie 3
unfolding ℕ_discrete
at_231 = renamed 2 3 1 (omega arith) (omega arith) (omega arith) (
  three_leaves (arity_of pre_lie) (left 2 3 1) (fits_left (arity_of pre_lie) refl 2 3 1) refl refl refl refl,
  (
    three_leaves (arity_of pre_lie) (right 2 3 1) (fits_right (arity_of pre_lie) refl 2 3 1) refl refl refl refl,
    (three_leaves (arity_of pre_lie) (left 2 1 3) (fits_left (arity_of pre_lie) refl 2 1 3) refl refl refl refl, (three_leaves (arity_of pre_lie) (right 2 1 3) (fits_right (arity_of pre_lie) refl 2 1 3) refl refl refl refl, tt)),
  ),
)

at_312 : Instance pre_lie 3
unfolding ℕ_discrete
at_312 = renamed 3 1 2 (omega arith) (omega arith) (omega arith) (
  three_leaves (arity_of pre_lie) (left 3 1 2) (fits_left (arity_of pre_lie) refl 3 1 2) refl refl refl refl,
  (
    three_leaves (arity_of pre_lie) (right 3 1 2) (fits_right (arity_of pre_lie) refl 3 1 2) refl refl refl refl,
    (three_leaves (arity_of pre_lie) (left 3 2 1) (fits_left (arity_of pre_lie) refl 3 2 1) refl refl refl refl, (three_leaves (arity_of pre_lie) (right 3 2 1) (fits_right (arity_of pre_lie) refl 3 2 1) refl refl refl refl, tt)),
  ),
)

-- p(1,2) - p(2,1) + p(2,1) - p(1,2) is zero
swap_met : InIdeal pre_lie 2 (image_sum commutator (obligation_terms lie (swap 0 1 minus)))
unfolding ℕ_discrete tree_discrete tree_discrete_by row_discrete_by same_leaf same_node same_more coef scale expand
swap_met = record { instances = []; adds_up = same_if_agree tree_discrete 100 (image_sum commutator (obligation_terms lie (swap 0 1 minus))) [] refl }

-- the image of the Jacobi relation is a sum of three instances
jacobi_met : InIdeal pre_lie 3 (image_sum commutator jacobi.terms)
unfolding at_123 at_231 at_312 renamed ℕ_discrete tree_discrete tree_discrete_by row_discrete_by same_leaf same_node same_more coef scale expand
jacobi_met = record {
  instances = at_123 ∷ (at_231 ∷ (at_312 ∷ []));
  adds_up = same_if_agree tree_discrete 100 (image_sum commutator jacobi.terms) (flat_map (element pre_lie 3) (at_123 ∷ (at_231 ∷ (at_312 ∷ [])))) refl;
}

commutator_met : AreMet lie pre_lie commutator
commutator_met o (inl e) = subst (λ u. InIdeal pre_lie (obligation_arity lie u) (image_sum commutator (obligation_terms lie u))) (sym e) swap_met
commutator_met o (inr (inl e)) = subst (λ u. InIdeal pre_lie (obligation_arity lie u) (image_sum commutator (obligation_terms lie u))) (sym e) jacobi_met
commutator_met o (inr (inr m)) = absurd m

pub commutator_sends : SendsIdeal lie pre_lie commutator
commutator_sends = (morphism_law lie pre_lie commutator lie_sound pre_lie_sound commutator_map).exactly.0 commutator_met

-- ---- the bare product isn't one, where it meets no relation

abbrev magma : Presentation
magma = without_relations pre_lie

product_map : IsMap lie magma product_alone
product_map = record { one_prime = refl; one_each = refl; labelled = of_generator product_alone (one_two, tt) }

magma_sound : IsSound magma
magma_sound r m = absurd m

no_swaps : (g i : ℕ) (s : Sign) → InOnePart (parts magma g) i s → ⊥
no_swaps zero i s (inl h) = h.1
no_swaps zero i s (inr h) = h.2
no_swaps (suc g) i s h = h

no_rule : Rule magma → ⊥
no_rule (relation r m) = m
no_rule (symmetry g i s h) = no_swaps g i s h

zero_alone : (n : ℕ) (e : List (ℕ × Tree ℕ)) (l : List (Instance magma n)) → Same tree_discrete 100 e (flat_map (element magma n) l) → Same tree_discrete 100 e []
zero_alone n e [] h = h
zero_alone n e (i ∷ l) h = absurd (no_rule i.rule)

-- p(1,2) + p(2,1) isn't zero
not_met : Same tree_discrete 100 (image_sum product_alone (obligation_terms lie (swap 0 1 minus))) [] → ⊥
unfolding ℕ_discrete tree_discrete tree_discrete_by row_discrete_by same_leaf same_node same_more coef scale expand
not_met h = let k : 1 ≡ 0 = h (two (leaf 1) (leaf 2)) in absurd (omega (arith, k))

product_unmet : AreMet lie magma product_alone → ⊥
product_unmet met = let h = met (swap 0 1 minus) (inl refl) in not_met (zero_alone 2 (image_sum product_alone (obligation_terms lie (swap 0 1 minus))) h.instances h.adds_up)

pub product_sends_not : SendsIdeal lie magma product_alone → ⊥
product_sends_not sends = product_unmet ((morphism_law lie magma product_alone lie_sound magma_sound product_map).exactly.1 sends)

-- ---- the laws, at small trees

three_of_lie : IsLabelled (arity_of lie) 3 (left 1 2 3)
unfolding ℕ_discrete
three_of_lie = three_leaves (arity_of lie) (left 1 2 3) (fits_left (arity_of lie) refl 1 2 3) refl refl refl refl

two_of_lie : IsLabelled (arity_of lie) 2 (two (leaf 1) (leaf 2))
unfolding ℕ_discrete
two_of_lie = two_leaves (arity_of lie) (two (leaf 1) (leaf 2)) (fits_two (arity_of lie) refl 1 2) refl refl refl

-- l(l(1,2),3) is l(1,2) with l(1,2) and 3 on its leaves
image_of_graft : Same tree_discrete 100 (image commutator (left 1 2 3)) (composed (image commutator (two (leaf 1) (leaf 2))) (map (image commutator) (two (leaf 1) (leaf 2) ∷ (leaf 3 ∷ []))))
image_of_graft = (images_compose lie pre_lie commutator commutator_map).grafted (two (leaf 1) (leaf 2)) (two (leaf 1) (leaf 2) ∷ (leaf 3 ∷ [])) two_of_lie

-- l(l(1,2),7) is l(0,7) with l(1,2) in place of leaf 0
image_of_put : Same tree_discrete 100 (image commutator (left 1 2 7)) (product put (image commutator (two (leaf 0) (leaf 7))) (image commutator (two (leaf 1) (leaf 2))))
unfolding ℕ_discrete
image_of_put = (images_compose lie pre_lie commutator commutator_map).in_context (two (leaf 0) (leaf 7)) (two (leaf 1) (leaf 2)) (fits_two (arity_of lie) refl 0 7) refl

image_has_labels : AllTerms (image commutator (left 1 2 3)) (IsLabelled (arity_of pre_lie) 3)
image_has_labels = (images_of_labelled_trees lie pre_lie commutator commutator_map).labelled 3 (left 1 2 3) three_of_lie

image_of_renamed : image commutator (left 3 4 5) ≡ moved (map_tree (λ i. i + 2)) (image commutator (left 1 2 3))
image_of_renamed = (images_of_labelled_trees lie pre_lie commutator commutator_map).relabelled (λ i. i + 2) (left 1 2 3) (fits_left (arity_of lie) refl 1 2 3)

-- the relation of pre-Lie algebras, times 4 from the right
times_four : (x : Tree ℕ) → IsLabelled (arity_of pre_lie) 3 x → IsLabelled (arity_of pre_lie) 4 (two x (leaf 4))
times_four x l = record {
  fits = (omega arith, refl, (l.fits, (tt, tt)));
  each = λ i a b. each i a b (ℕ_discrete 4 i);
  only = λ i o. only i o (ℕ_discrete 4 i);
}
  where
    each : (i : ℕ) → 0 < i → i ≤ 4 → Dec (4 ≡ i) → occurs i (two x (leaf 4)) ≡ 1
    each i a b (yes e) =
        let four = one_if-yes (ℕ_discrete 4 i) e in
        let none_there : occurs i x ≡ 0 = absent i (dec_lt 0 (occurs i x)) (omega (arith, e)) in
        omega (arith, four, none_there)
      where
        absent : (j : ℕ) → Dec (0 < occurs j x) → 3 < j → occurs j x ≡ 0
        absent j (yes o) h = let w = l.only j o in absurd (omega (arith, w.1, h))
        absent j (no z) h = omega (arith, z)
    each i a b (no f) = let other = one_if-no (ℕ_discrete 4 i) f in let k : occurs i x ≡ 1 = l.each i a (omega (arith, b, f)) in omega (arith, other, k)

    only : (i : ℕ) → 0 < occurs i (two x (leaf 4)) → Dec (4 ≡ i) → (0 < i) × (i ≤ 4)
    only i o (yes e) = (omega (arith, e), omega (arith, e))
    only i o (no f) =
        let other = one_if-no (ℕ_discrete 4 i) f in
        let k = l.only i (omega (arith, o, other)) in (k.0, omega (arith, k.1))

placed_in_product : (x : Tree ℕ) → IsLabelled (arity_of pre_lie) 3 x → IsLabelled (arity_of pre_lie) 4 (placed (two (leaf 0) (leaf 4)) (leaf 1 ∷ (leaf 2 ∷ (leaf 3 ∷ []))) x)
placed_in_product x l = subst (λ y. IsLabelled (arity_of pre_lie) 4 (two y (leaf 4))) (sym same) (times_four x l)
  where
    leaf_is : (i : ℕ) → 0 < i → i ≤ 3 → item (leaf 1 ∷ (leaf 2 ∷ (leaf 3 ∷ []))) i ≡ leaf i
    leaf_is zero a b = absurd (omega (arith, a))
    leaf_is (suc zero) a b = refl
    leaf_is (suc (suc zero)) a b = refl
    leaf_is (suc (suc (suc zero))) a b = refl
    leaf_is (suc (suc (suc (suc i)))) a b = absurd (omega (arith, b))

    same : graft x (item (leaf 1 ∷ (leaf 2 ∷ (leaf 3 ∷ [])))) ≡ x
    same = graft_ext x (item (leaf 1 ∷ (leaf 2 ∷ (leaf 3 ∷ [])))) leaf (by_leaf x (λ i. item (leaf 1 ∷ (leaf 2 ∷ (leaf 3 ∷ []))) i ≡ leaf i) (λ i o. let w = l.only i o in leaf_is i w.0 w.1)) ∙ graft_leaf x

relation_times_four : InIdeal pre_lie 4 (moved (placed (two (leaf 0) (leaf 4)) (leaf 1 ∷ (leaf 2 ∷ (leaf 3 ∷ [])))) symmetric_associator.terms)
unfolding ℕ_discrete
relation_times_four =
    placed_in_ideal pre_lie 3 4 (two (leaf 0) (leaf 4)) (leaf 1 ∷ (leaf 2 ∷ (leaf 3 ∷ []))) symmetric_associator.terms pre_lie_sound refl placed_in_product
    (rule_in_ideal pre_lie pre_lie_sound (relation symmetric_associator (inl refl)))

-- the commutator, and then the identity
lie_wide : IsWide lie
lie_wide zero h = omega arith
lie_wide (suc g) h = absurd (omega (arith, h))

pre_lie_wide : IsWide pre_lie
pre_lie_wide zero h = omega arith
pre_lie_wide (suc g) h = absurd (omega (arith, h))

jacobi_unchanged : image_sum (identity lie) jacobi.terms ≡ jacobi.terms
jacobi_unchanged = (identity_law lie lie_wide).unchanged 3 jacobi.terms (lie_sound jacobi (inl refl))

pub composite_sends : SendsIdeal lie pre_lie (composite commutator (identity pre_lie))
composite_sends = (maps_compose lie pre_lie pre_lie commutator (identity pre_lie) commutator_map (identity_law pre_lie pre_lie_wide).is_map).morphism commutator_sends (identity_law pre_lie pre_lie_wide).morphism
