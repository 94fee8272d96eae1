-- A tree with n leaves that carries each of 1 to n carries nothing else.
use Rattle.std.proofs.Common.{◌≡◌, ℕ, zero, suc, ◌+◌, ◌≤◌, ◌<◌, refl, sym, ◌∙◌, ap, arith, subst}
use native.Mathlib.Decide.{ℕ_discrete, dec_lt}
use Rattle.labelled_trees.specs.Trees.{Tree}
use Rattle.labelled_trees.specs.Leaves.{sum_leaves, one_if, occurs, leaf_count}
use Rattle.labelled_trees.specs.Labelled.{IsNumbered, IsLabelled}
use Rattle.labelled_trees.proofs.Leaves.{one_if-yes, one_if-no, sum_leaves-add, sum_leaves-≤, sum_leaves-same, by_leaf, AllLeaves-each, sum_leaves-zero}
use Rattle.labelled_trees.proofs.Numbered.{numbered_of_labelled}

-- 1 where x is from 1 to n, else 0
abbrev pub is_label : ℕ → ℕ → ℕ
is_label zero x = 0
is_label (suc n) x = is_label n x + one_if (ℕ_discrete x (suc n))

-- how many leaves carry a number from 1 to n
abbrev pub labels_upto : ℕ → Tree ℕ → ℕ
labels_upto zero t = 0
labels_upto (suc n) t = labels_upto n t + occurs (suc n) t

above_is_none : (n x : ℕ) → n < x → is_label n x ≡ 0
above_is_none zero x l = refl
above_is_none (suc n) x l = let other = one_if-no (ℕ_discrete x (suc n)) (λ e. omega (arith, l, e)) in omega (arith, other, above_is_none n x (omega arith))

zero_is_none : (n : ℕ) → is_label n 0 ≡ 0
zero_is_none zero = refl
zero_is_none (suc n) = let other = one_if-no (ℕ_discrete 0 (suc n)) (λ e. omega (arith, e)) in omega (arith, other, zero_is_none n)

label_by : (n x : ℕ) → 0 < x → x ≤ suc n → Dec (x ≡ suc n) → (x ≤ n → is_label n x ≡ 1) → is_label n x + one_if (ℕ_discrete x (suc n)) ≡ 1
label_by n x a b (yes e) k = let here = one_if-yes (ℕ_discrete x (suc n)) e in omega (arith, here, above_is_none n x (omega (arith, e)))
label_by n x a b (no f) k = let other = one_if-no (ℕ_discrete x (suc n)) f in omega (arith, other, k (omega (arith, b, f)))

pub is_label-one : (n x : ℕ) → 0 < x → x ≤ n → is_label n x ≡ 1
is_label-one zero x a b = absurd (omega arith)
is_label-one (suc n) x a b = label_by n x a b (ℕ_discrete x (suc n)) (λ le. is_label-one n x a le)

bounded_by : (n x : ℕ) → Dec (0 < x) → Dec (x < suc n) → is_label n x ≤ 1
bounded_by n x (yes a) (yes b) = omega (arith, is_label-one n x a (omega (arith, b)))
bounded_by n x (yes a) (no b) = omega (arith, above_is_none n x (omega (arith, b)))
bounded_by n x (no a) d = let none : x ≡ 0 = omega (arith, a) in subst (λ y. is_label n y ≤ 1) (sym none) (omega (arith, zero_is_none n))

is_label-≤ : (n x : ℕ) → is_label n x ≤ 1
is_label-≤ n x = bounded_by n x (dec_lt 0 x) (dec_lt x (suc n))

pub sum_leaves-is_label : (n : ℕ) (t : Tree ℕ) → sum_leaves t (is_label n) ≡ labels_upto n t
sum_leaves-is_label zero t = sum_leaves-zero t
sum_leaves-is_label (suc n) t = sum_leaves-add t (is_label n) (λ x. one_if (ℕ_discrete x (suc n))) ∙ ap (λ m. m + occurs (suc n) t) (sum_leaves-is_label n t)

pub labels_upto-each : (n : ℕ) (t : Tree ℕ) → ((i : ℕ) → 0 < i → i ≤ n → occurs i t ≡ 1) → labels_upto n t ≡ n
labels_upto-each zero t each = refl
labels_upto-each (suc n) t each = omega (arith, labels_upto-each n t (λ i a b. each i a (omega (arith, b))), each (suc n) (omega arith) (omega arith))

outside : (n x : ℕ) → (0 < x → x ≤ n → ⊥) → Dec (0 < x) → Dec (x < suc n) → is_label n x ≡ 0
outside n x out (yes a) (yes b) = absurd (out a (omega (arith, b)))
outside n x out (yes a) (no b) = above_is_none n x (omega (arith, b))
outside n x out (no a) d = let none : x ≡ 0 = omega (arith, a) in subst (λ y. is_label n y ≡ 0) (sym none) (zero_is_none n)

apart : (n j x : ℕ) → (0 < j → j ≤ n → ⊥) → Dec (x ≡ j) → is_label n x + one_if (ℕ_discrete x j) ≤ 1
apart n j x out (yes e) =
    let here = one_if-yes (ℕ_discrete x j) e in
    let none : is_label n x ≡ 0 = outside n x (λ a b. out (subst (λ y. 0 < y) e a) (subst (λ y. y ≤ n) e b)) (dec_lt 0 x) (dec_lt x (suc n)) in omega (arith, here, none)
apart n j x out (no f) = let other = one_if-no (ℕ_discrete x j) f in omega (arith, other, is_label-≤ n x)

-- n leaves among which each of 1 to n stands once
pub only_labels : (n : ℕ) (t : Tree ℕ) → leaf_count t ≡ n → ((i : ℕ) → 0 < i → i ≤ n → occurs i t ≡ 1) → (j : ℕ) → (0 < j → j ≤ n → ⊥) → occurs j t ≡ 0
only_labels n t all each j out =
    let both = sum_leaves-add t (is_label n) (λ x. one_if (ℕ_discrete x j)) in
    let few = sum_leaves-≤ t (λ x. is_label n x + one_if (ℕ_discrete x j)) (λ x. 1) (AllLeaves-each t (λ x. is_label n x + one_if (ℕ_discrete x j) ≤ 1) (λ x. apart n j x out (ℕ_discrete x j))) in
    omega (arith, both, few, all, sum_leaves-is_label n t, labels_upto-each n t each)

-- a tree numbered by 1 to n has n leaves
pub leaf_count-numbered : (n : ℕ) (t : Tree ℕ) → IsNumbered n t → leaf_count t ≡ n
leaf_count-numbered n t h =
    let ones = sum_leaves-same t (λ x. 1) (is_label n) (by_leaf t (λ x. 1 ≡ is_label n x) (λ i o. let w = h.only i o in sym (is_label-one n i w.0 w.1))) in
    ones ∙ sum_leaves-is_label n t ∙ labels_upto-each n t h.each

pub leaf_count-labelled : (arity : ℕ → ℕ) (n : ℕ) (t : Tree ℕ) → IsLabelled arity n t → leaf_count t ≡ n
leaf_count-labelled arity n t h = leaf_count-numbered n t (numbered_of_labelled h)

within : (n i : ℕ) → Dec (0 < i) → Dec (i < suc n) → ((0 < i → i ≤ n → ⊥) → ⊥) → (0 < i) × (i ≤ n)
within n i (yes a) (yes b) k = (a, omega (arith, b))
within n i (yes a) (no b) k = absurd (k (λ _ c. b (omega (arith, c))))
within n i (no a) d k = absurd (k (λ c _. a c))

pub only_within : (n : ℕ) (t : Tree ℕ) → leaf_count t ≡ n → ((i : ℕ) → 0 < i → i ≤ n → occurs i t ≡ 1) → (i : ℕ) → 0 < occurs i t → (0 < i) × (i ≤ n)
only_within n t all each i o = within n i (dec_lt 0 i) (dec_lt i (suc n)) (λ out. let z = only_labels n t all each i out in absurd (omega (arith, z, o)))
