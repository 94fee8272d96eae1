-- Trees numbered by 1 to n.
use Rattle.std.proofs.Common.{◌≡◌, ℕ, zero, suc, ◌*◌, ◌<◌, ◌≤◌, sym, ◌∙◌, ap, arith}
use native.Mathlib.Decide.{dec_lt}
use Rattle.labelled_trees.specs.Trees.{Tree}
use Rattle.labelled_trees.specs.Leaves.{sum_leaves, occurs}
use Rattle.labelled_trees.specs.Labelled.{Fits, IsNumbered, IsLabelled}
use Rattle.labelled_trees.specs.Ranks.{below}
use Rattle.labelled_trees.proofs.Leaves.{by_leaf}
use Rattle.labelled_trees.proofs.RangeSums.{range_sum_ext, by_counts}

-- a labelled tree is a tree that fits and is numbered
pub numbered_of_labelled : {arity : ℕ → ℕ} {n : ℕ} {t : Tree ℕ} → IsLabelled arity n t → IsNumbered n t
numbered_of_labelled h = record { each = h.each; only = h.only }

pub labelled_of_numbered : {arity : ℕ → ℕ} {n : ℕ} {t : Tree ℕ} → Fits arity t → IsNumbered n t → IsLabelled arity n t
labelled_of_numbered f h = record { fits = f; each = h.each; only = h.only }

-- no leaf has the number 0
pub numbered_no_zero : {n : ℕ} {t : Tree ℕ} → IsNumbered n t → occurs 0 t ≡ 0
numbered_no_zero {t = t} h = go (dec_lt 0 (occurs 0 t))
  where
    go : Dec (0 < occurs 0 t) → occurs 0 t ≡ 0
    go (yes o) = let r = h.only 0 o in absurd (omega (arith, r.0))
    go (no z) = omega (arith, z)

-- each number stands at one leaf at most
pub numbered_once : {n : ℕ} {t : Tree ℕ} → IsNumbered n t → (i : ℕ) → occurs i t ≤ 1
numbered_once {t = t} h i = go (dec_lt 0 (occurs i t))
  where
    go : Dec (0 < occurs i t) → occurs i t ≤ 1
    go (yes o) = let r = h.only i o in let e : occurs i t ≡ 1 = h.each i r.0 r.1 in omega (arith, e)
    go (no z) = omega (arith, z)

pub labelled_once : {arity : ℕ → ℕ} {n : ℕ} {t : Tree ℕ} → IsLabelled arity n t → (i : ℕ) → occurs i t ≤ 1
labelled_once h = numbered_once (numbered_of_labelled h)

not_fewer : (m n : ℕ) (t : Tree ℕ) → IsNumbered m t → IsNumbered n t → n ≤ m
not_fewer m n t a b = go (dec_lt m n)
  where
    go : Dec (m < n) → n ≤ m
    go (yes l) =
        let one : occurs n t ≡ 1 = b.each n (omega (arith, l)) (omega arith) in
        let low : n ≤ m = (a.only n (omega (arith, one))).1 in low
    go (no l) = omega (arith, l)

-- a tree is numbered by one range
pub one_number : (m n : ℕ) (t : Tree ℕ) → IsNumbered m t → IsNumbered n t → m ≡ n
one_number m n t a b = omega (arith, not_fewer m n t a b, not_fewer n m t b a)

-- two trees numbered by one range have each number equally often
pub numbered_counts : {n : ℕ} {x y : Tree ℕ} → IsNumbered n x → IsNumbered n y → (i : ℕ) → occurs i x ≡ occurs i y
numbered_counts {x = x} {y = y} hx hy i = go (dec_lt 0 (occurs i x)) (dec_lt 0 (occurs i y))
  where
    go : Dec (0 < occurs i x) → Dec (0 < occurs i y) → occurs i x ≡ occurs i y
    go (yes a) d = let r = hx.only i a in hx.each i r.0 r.1 ∙ sym (hy.each i r.0 r.1)
    go (no a) (yes b) = let r = hy.only i b in hx.each i r.0 r.1 ∙ sym (hy.each i r.0 r.1)
    go (no a) (no b) = omega (arith, a, b)

-- a sum over the leaves depends on their numbers alone
pub numbered_sums : {n : ℕ} {x y : Tree ℕ} → IsNumbered n x → IsNumbered n y → (f : ℕ → ℕ) → sum_leaves x f ≡ sum_leaves y f
numbered_sums {n = n} {x = x} {y = y} hx hy f =
    by_counts (suc n) x f (by_leaf x (λ i. i < suc n) (λ i o. let r = hx.only i o in omega (arith, r.1)))
    ∙ range_sum_ext (suc n) (λ i. occurs i x * f i) (λ i. occurs i y * f i) (λ i. ap (λ k. k * f i) (numbered_counts hx hy i))
    ∙ sym (by_counts (suc n) y f (by_leaf y (λ i. i < suc n) (λ i o. let r = hy.only i o in omega (arith, r.1))))

-- below each number of the range stand the numbers before it
pub below_numbered : {n : ℕ} {t : Tree ℕ} → IsNumbered n t → (k : ℕ) → k ≤ n → below (suc k) t ≡ k
below_numbered h zero le = omega (arith, numbered_no_zero h)
below_numbered {t = t} h (suc k) le = let o : occurs (suc k) t ≡ 1 = h.each (suc k) (omega arith) le in omega (arith, o, below_numbered h k (omega (arith, le)))
