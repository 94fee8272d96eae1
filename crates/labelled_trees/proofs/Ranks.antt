-- Ranks of leaves, and the tree with its ranks.
use Rattle.std.proofs.Common.{◌≡◌, ◌≢◌, ℕ, zero, suc, ◌+◌, ◌*◌, ◌<◌, ◌≤◌, refl, ◌∙◌, ap, arith}
use native.Mathlib.Decide.{ℕ_discrete, dec_lt}
use Rattle.std.proofs.Common.{◌≡◌, ℕ, zero, suc, ◌+◌, ◌<◌, ◌≤◌, refl, sym, ◌∙◌, ap, arith}
use Rattle.labelled_trees.specs.Trees.{Tree, leaf}
use Rattle.labelled_trees.specs.Leaves.{sum_leaves, AllLeaves, one_if, occurs, leaf_count}
use Rattle.labelled_trees.specs.Ranks.{below, standard}
use Rattle.labelled_trees.proofs.GraftLeaves.{sum_leaves-graft}
use Rattle.labelled_trees.proofs.Leaves.{AllLeaves-each, AllLeaves-imp, sum_leaves-zero, sum_leaves-add, sum_leaves-same, one_if-yes, one_if-no}
use Rattle.labelled_trees.specs.RangeSums.{range_sum}
use Rattle.labelled_trees.proofs.RangeSums.{by_counts}

below_step : (m n : ℕ) (t : Tree ℕ) → m ≤ suc n → Dec (m < suc n) → (m ≤ n → below m t ≤ below n t) → below m t ≤ below n t + occurs n t
below_step m n t h (yes lt) ih = omega (arith, ih (omega arith))
below_step m n t h (no ge) ih = let e : m ≡ suc n = omega (arith, ge) in rw e (omega arith)

pub below-mono : (m n : ℕ) (t : Tree ℕ) → m ≤ n → below m t ≤ below n t
below-mono m zero t h = let e : m ≡ 0 = omega arith in rw e (omega arith)
below-mono m (suc n) t h = below_step m n t h (dec_lt m (suc n)) (λ k. below-mono m n t k)

-- a number that occurs has a lower rank than every greater number
pub below-lt : (m n : ℕ) (t : Tree ℕ) → 0 < occurs m t → m < n → below m t < below n t
below-lt m n t o lt = let k : below (suc m) t ≤ below n t = below-mono (suc m) n t lt in omega (arith, k)

-- few numbers have few leaves
pub below_bound : (n : ℕ) (t : Tree ℕ) → ((i : ℕ) → occurs i t ≤ 1) → occurs 0 t ≡ 0 → below (suc n) t ≤ n
below_bound zero t d z = omega arith
below_bound (suc n) t d z = omega (arith, below_bound n t d z, d (suc n))

-- how many of the leaves below b have the rank suc i
abbrev ranked : ℕ → ℕ → Tree ℕ → ℕ
ranked b i t = range_sum b (λ x. occurs x t * one_if (ℕ_discrete (suc (below x t)) (suc i)))

ranked_step : (b i : ℕ) (t : Tree ℕ) (d : Dec (suc (below b t) ≡ suc i)) → occurs b t ≤ 1
    → (i < below b t → ranked b i t ≡ 1) × (below b t ≤ i → ranked b i t ≡ 0)
    → (i < below (suc b) t → ranked b i t + occurs b t * one_if d ≡ 1) × (below (suc b) t ≤ i → ranked b i t + occurs b t * one_if d ≡ 0)
ranked_step b i t (yes e) o h = (
  λ lt. let z : ranked b i t ≡ 0 = h.1 (omega (arith, e)) in let one : occurs b t ≡ 1 = omega (arith, e) in rw (z, one) (omega arith),
  λ le. let z : ranked b i t ≡ 0 = h.1 (omega (arith, e)) in let none' : occurs b t ≡ 0 = omega (arith, e) in rw (z, none') (omega arith),
)
ranked_step b i t (no f) o h = (λ lt. let z : ranked b i t ≡ 1 = h.0 (omega (arith, f')) in rw z (omega arith), λ le. let z : ranked b i t ≡ 0 = h.1 (omega arith) in rw z (omega arith))
  where
    f' : below b t ≢ i
    f' e = f (ap suc e)

ranked_is : (b i : ℕ) (t : Tree ℕ) → ((x : ℕ) → occurs x t ≤ 1) → (i < below b t → ranked b i t ≡ 1) × (below b t ≤ i → ranked b i t ≡ 0)
ranked_is zero i t d = (λ h. absurd (omega arith), λ h. refl)
ranked_is (suc b) i t d = ranked_step b i t (ℕ_discrete (suc (below b t)) (suc i)) (d b) (ranked_is b i t d)

pub occurs-standard : (b i : ℕ) (t : Tree ℕ) → AllLeaves t (λ x. x < b) → occurs i (standard t) ≡ range_sum b (λ x. occurs x t * one_if (ℕ_discrete (suc (below x t)) i))
occurs-standard b i t h = sum_leaves-graft t (λ x. leaf (suc (below x t))) (λ n. one_if (ℕ_discrete n i)) ∙ by_counts b t (λ x. one_if (ℕ_discrete (suc (below x t)) i)) h

zero_sum : (b : ℕ) (t : Tree ℕ) → range_sum b (λ x. occurs x t * one_if (ℕ_discrete (suc (below x t)) 0)) ≡ 0
zero_sum zero t = refl
zero_sum (suc b) t =
    let z : one_if (ℕ_discrete (suc (below b t)) 0) ≡ 0 = one_if-no (ℕ_discrete (suc (below b t)) 0) (λ e. omega arith) in
    rw (zero_sum b t, z) (omega arith)

-- the ranks are 1 to the number of leaves, each once
module _ (b : ℕ) (t : Tree ℕ) (h : AllLeaves t (λ x. x < b)) (d : (x : ℕ) → occurs x t ≤ 1) where
  pub standard_each : (i : ℕ) → 0 < i → i ≤ below b t → occurs i (standard t) ≡ 1
  standard_each zero p le = absurd (omega arith)
  standard_each (suc i) p le = occurs-standard b (suc i) t h ∙ (ranked_is b i t d).0 le

  pub standard_only : (i : ℕ) → 0 < occurs i (standard t) → (0 < i) × (i ≤ below b t)
  standard_only zero o = let z : occurs 0 (standard t) ≡ 0 = occurs-standard b 0 t h ∙ zero_sum b t in absurd (omega (arith, z, o))
  standard_only (suc i) o = in_range (dec_lt i (below b t))
    where
      in_range : Dec (i < below b t) → (0 < suc i) × (suc i ≤ below b t)
      in_range (yes lt) = (omega arith, lt)
      in_range (no ge) = let z : occurs (suc i) (standard t) ≡ 0 = occurs-standard b (suc i) t h ∙ (ranked_is b i t d).1 (omega (arith, ge)) in absurd (omega (arith, z, o))

-- below as a sum over the leaves
step_below : (n a : ℕ) (d : Dec (a < n)) (e : Dec (a ≡ n)) (f : Dec (a < suc n)) → one_if d + one_if e ≡ one_if f
step_below n a (yes h) (yes e) f = absurd (omega arith)
step_below n a (yes h) (no e) (yes f) = refl
step_below n a (yes h) (no e) (no f) = absurd (f (omega arith))
step_below n a (no h) (yes e) (yes f) = refl
step_below n a (no h) (yes e) (no f) = absurd (f (omega arith))
step_below n a (no h) (no e) (yes f) = absurd (omega (arith, h, e, f))
step_below n a (no h) (no e) (no f) = refl

pub below_sum : (n : ℕ) (t : Tree ℕ) → below n t ≡ sum_leaves t (λ a. one_if (dec_lt a n))
below_sum zero t = sym (
    sum_leaves-same t (λ a. one_if (dec_lt a 0)) (λ a. 0) (AllLeaves-each t (λ a. one_if (dec_lt a 0) ≡ 0) (λ a. one_if-no (dec_lt a 0) (λ h. omega arith)))
    ∙ sum_leaves-zero t)
below_sum (suc n) t =
    ap (λ m. m + occurs n t) (below_sum n t)
    ∙ sym (sum_leaves-add t (λ a. one_if (dec_lt a n)) (λ a. one_if (ℕ_discrete a n)))
    ∙ sum_leaves-same t (λ a. one_if (dec_lt a n) + one_if (ℕ_discrete a n)) (λ a. one_if (dec_lt a (suc n)))
    (AllLeaves-each t (λ a. one_if (dec_lt a n) + one_if (ℕ_discrete a n) ≡ one_if (dec_lt a (suc n))) (λ a. step_below n a (dec_lt a n) (ℕ_discrete a n) (dec_lt a (suc n))))

-- below a bound of all leaves stand all
pub below_all : (b : ℕ) (t : Tree ℕ) → AllLeaves t (λ x. x < b) → below b t ≡ leaf_count t
below_all b t h = below_sum b t ∙ sum_leaves-same t (λ a. one_if (dec_lt a b)) (λ a. 1) (AllLeaves-imp t (λ x. x < b) (λ x. one_if (dec_lt x b) ≡ 1) (λ x l. one_if-yes (dec_lt x b) l) h)

pub same_if : {P Q : Type 0} (d : Dec P) (e : Dec Q) → (P → Q) → (Q → P) → one_if d ≡ one_if e
same_if (yes p) (yes q) f g = refl
same_if (yes p) (no q) f g = absurd (q (f p))
same_if (no p) (yes q) f g = absurd (p (g q))
same_if (no p) (no q) f g = refl
