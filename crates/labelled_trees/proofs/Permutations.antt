-- Lists with the same counts are permutations of each other.
use Rattle.std.proofs.Common.{◌≡◌, ℕ, zero, suc, ◌+◌, ◌<◌, ◌≤◌, List, [], ◌∷◌, refl, sym, ◌∙◌, ap, arith, subst}
use mathlib.Core.List.{◌++◌}
use native.Mathlib.Decide.{ℕ_discrete, dec_lt}
use Rattle.std.specs.List.{range_with_len, sum_by}
use Rattle.std.specs.Prelude.{IsPermutation}
use Rattle.std.proofs.lemmas.List.Sums.{sum_by-cons}
use Rattle.std.proofs.lemmas.List.Sorted.{IsPermutation-refl, IsPermutation-sym, IsPermutation-trans, IsPermutation-cons, IsPermutation-middle, sum_by-IsPermutation}
use Rattle.labelled_trees.specs.Trees.{Tree, Row, leaf, node, none, more, leaves, leaves_row}
use Rattle.labelled_trees.specs.Leaves.{times, sum_row, one_if, occurs}
use Rattle.labelled_trees.specs.Labelled.{IsLabelled}
use Rattle.labelled_trees.specs.Laws.{LeavesArePermutations}
use Rattle.labelled_trees.proofs.Leaves.{one_if-yes}

pub times-append : {X : Type 0} (dec : Discrete X) (x : X) (k l : List X) → times dec x (k ++ l) ≡ times dec x k + times dec x l
times-append dec x [] l = omega arith
times-append dec x (y ∷ k) l = omega (arith, times-append dec x k l)

record Around (x : ℕ) (l : List ℕ) : Type 0 where
  front : List ℕ
  back : List ℕ
  is : l ≡ front ++ (x ∷ back)

around : (x : ℕ) (l : List ℕ) → 0 < times ℕ_discrete x l → Around x l
around x [] h = absurd (omega arith)
around x (y ∷ l) h = go (ℕ_discrete y x) (λ k. around x l k) h
  where
    go : (d : Dec (y ≡ x)) → (0 < times ℕ_discrete x l → Around x l) → 0 < one_if d + times ℕ_discrete x l → Around x (y ∷ l)
    go (yes e) ih k = record { front = []; back = l; is = ap (λ z. z ∷ l) e }
    go (no f) ih k = let a = ih (omega arith) in record { front = y ∷ a.front; back = a.back; is = ap (λ m. y ∷ m) a.is }

nothing_left : (l : List ℕ) → ((i : ℕ) → 0 ≡ times ℕ_discrete i l) → l ≡ []
nothing_left [] h = refl
nothing_left (x ∷ l) h = absurd (let o = one_if-yes (ℕ_discrete x x) refl in let e = h x in omega (arith, o, e))

permuted : (k l : List ℕ) → ((i : ℕ) → times ℕ_discrete i k ≡ times ℕ_discrete i l) → IsPermutation k l
permuted [] l h = subst (IsPermutation []) (sym (nothing_left l h)) (IsPermutation-refl [])
permuted (x ∷ k) l h =
    let a : Around x l = around x l (let e = h x in let o = one_if-yes (ℕ_discrete x x) refl in omega (arith, e, o)) in
    let rest : (i : ℕ) → times ℕ_discrete i k ≡ times ℕ_discrete i (a.front ++ a.back)
    = λ i.
    let e : times ℕ_discrete i l ≡ times ℕ_discrete i a.front + (one_if (ℕ_discrete x i) + times ℕ_discrete i a.back) = ap (times ℕ_discrete i) a.is ∙ times-append ℕ_discrete i a.front (x ∷ a.back) in
    let g = h i in omega (arith, e, g, times-append ℕ_discrete i a.front a.back) in
    subst (IsPermutation (x ∷ k)) (sym a.is)
    (IsPermutation-trans (x ∷ k) (x ∷ (a.front ++ a.back)) (a.front ++ (x ∷ a.back))
    (IsPermutation-cons x k (a.front ++ a.back) (permuted k (a.front ++ a.back) rest))
    (IsPermutation-sym (a.front ++ (x ∷ a.back)) (x ∷ (a.front ++ a.back)) (IsPermutation-middle a.front x a.back)))

sum_times : (i : ℕ) (l : List ℕ) → sum_by (λ x. one_if (ℕ_discrete x i)) l ≡ times ℕ_discrete i l
sum_times i [] = refl
sum_times i (x ∷ l) = sum_by-cons (λ y. one_if (ℕ_discrete y i)) x l ∙ ap (λ n. one_if (ℕ_discrete x i) + n) (sum_times i l)

mutual
  -- a number stands in the leaves as often as at a leaf
  pub times-leaves : (i : ℕ) (t : Tree ℕ) → times ℕ_discrete i (leaves t) ≡ occurs i t
  times-leaves i (leaf n) = omega arith
  times-leaves i (node g r) = times-leaves_row i r

  times-leaves_row : (i : ℕ) (r : Row ℕ) → times ℕ_discrete i (leaves_row r) ≡ sum_row r (λ n. one_if (ℕ_discrete n i))
  times-leaves_row i none = refl
  times-leaves_row i (more t r) = times-append ℕ_discrete i (leaves t) (leaves_row r) ∙ omega (arith, times-leaves i t, times-leaves_row i r)

-- each number of the range once, and no other
in_range : (i a n : ℕ) → (a ≤ i → i < a + n → times ℕ_discrete i (range_with_len a n) ≡ 1) × (0 < times ℕ_discrete i (range_with_len a n) → (a ≤ i) × (i < a + n))
in_range i a zero = (λ p q. absurd (omega arith), λ h. absurd (omega arith))
in_range i a (suc n) = go (ℕ_discrete a i) (in_range i (a + 1) n)
  where
    go : (d : Dec (a ≡ i)) → (a + 1 ≤ i → i < a + 1 + n → times ℕ_discrete i (range_with_len (a + 1) n) ≡ 1) × (0 < times ℕ_discrete i (range_with_len (a + 1) n) → (a + 1 ≤ i) × (i < a + 1 + n))
        → (a ≤ i → i < a + suc n → one_if d + times ℕ_discrete i (range_with_len (a + 1) n) ≡ 1) × (0 < one_if d + times ℕ_discrete i (range_with_len (a + 1) n) → (a ≤ i) × (i < a + suc n))
    go (yes e) h = (
      λ p q. none_more (dec_lt 0 (times ℕ_discrete i (range_with_len (a + 1) n))),
      λ k. omega (arith, e),
    )
      where
        none_more : Dec (0 < times ℕ_discrete i (range_with_len (a + 1) n)) → 1 + times ℕ_discrete i (range_with_len (a + 1) n) ≡ 1
        none_more (yes k) = absurd (let r = h.1 k in omega (arith, r.0, e))
        none_more (no z) = omega (arith, z)
    go (no f) h = (
      λ p q. let k = h.0 (omega (arith, p, f)) (omega (arith, q)) in omega (arith, k),
      λ k. let r = h.1 (omega (arith, k)) in omega (arith, r.0, r.1),
    )

same_count : (arity : ℕ → ℕ) (n : ℕ) (t : Tree ℕ) → IsLabelled arity n t → (i : ℕ) → times ℕ_discrete i (range_with_len 1 n) ≡ times ℕ_discrete i (leaves t)
same_count arity n t h i = go (dec_lt 0 (occurs i t)) (dec_lt 0 (times ℕ_discrete i (range_with_len 1 n)))
  where
    go : Dec (0 < occurs i t) → Dec (0 < times ℕ_discrete i (range_with_len 1 n)) → times ℕ_discrete i (range_with_len 1 n) ≡ times ℕ_discrete i (leaves t)
    go (yes o) d = let r = h.only i o in (in_range i 1 n).0 r.0 (omega (arith, r.1)) ∙ sym (h.each i r.0 r.1) ∙ sym (times-leaves i t)
    go (no z) (yes k) = let r = (in_range i 1 n).1 k in absurd (let e = h.each i r.0 (omega (arith, r.1)) in omega (arith, z, e))
    go (no z) (no k) = omega (arith, z, k, times-leaves i t)

pub permutations : LeavesArePermutations
permutations arity n t = (
  λ h. (h.fits, permuted (range_with_len 1 n) (leaves t) (same_count arity n t h)),
  λ f p.
      let counts : (i : ℕ) → occurs i t ≡ times ℕ_discrete i (range_with_len 1 n)
      = λ i. sym (times-leaves i t) ∙ sym (sum_times i (leaves t)) ∙ sum_by-IsPermutation (λ x. one_if (ℕ_discrete x i)) (range_with_len 1 n) (leaves t) p ∙ sum_times i (range_with_len 1 n) in
      record {
        fits = f;
        each = λ i a b. counts i ∙ (in_range i 1 n).0 a (omega (arith, b));
        only = λ i o. let r = (in_range i 1 n).1 (let e = counts i in omega (arith, e, o)) in (r.0, omega (arith, r.1));
      },
)
