-- Sums over the leaves by the numbers that stand at them.
use Rattle.std.proofs.Common.{◌≡◌, ℕ, zero, suc, ◌+◌, ◌*◌, ◌<◌, ◌≤◌, refl, sym, ◌∙◌, arith, subst}
use mathlib.Core.Path.{ap₂}
use native.Mathlib.Decide.{ℕ_discrete}
use Rattle.labelled_trees.specs.Trees.{Tree, Row, leaf, node, none, more}
use Rattle.labelled_trees.specs.Leaves.{sum_leaves, sum_row, AllLeaves, AllRow, one_if, occurs, occurs_row}
use Rattle.labelled_trees.specs.RangeSums.{range_sum}
use Rattle.labelled_trees.proofs.Leaves.{one_if-no, one_if-yes}

pub range_sum_ext : (b : ℕ) (f g : ℕ → ℕ) → ((i : ℕ) → f i ≡ g i) → range_sum b f ≡ range_sum b g
range_sum_ext zero f g h = refl
range_sum_ext (suc b) f g h = ap₂ (λ m n. m + n) (range_sum_ext b f g h) (h b)

range_sum-add : (b : ℕ) (f g h : ℕ → ℕ) → range_sum b (λ i. (f i + g i) * h i) ≡ range_sum b (λ i. f i * h i) + range_sum b (λ i. g i * h i)
range_sum-add zero f g h = refl
range_sum-add (suc b) f g h = omega (arith, range_sum-add b f g h)

range_sum-zero : (b : ℕ) (h : ℕ → ℕ) → range_sum b (λ i. 0 * h i) ≡ 0
range_sum-zero zero h = refl
range_sum-zero (suc b) h = omega (arith, range_sum-zero b h)

pub range_sum-past : (b n : ℕ) (h : ℕ → ℕ) → b ≤ n → range_sum b (λ i. one_if (ℕ_discrete n i) * h i) ≡ 0
range_sum-past zero n h le = refl
range_sum-past (suc b) n h le =
    let z : one_if (ℕ_discrete n b) ≡ 0 = one_if-no (ℕ_discrete n b) (λ e. omega arith) in
    rw (z, range_sum-past b n h (omega arith)) (omega arith)

one_step : (b n : ℕ) (h : ℕ → ℕ) → n < suc b → Dec (n ≡ b) → (n < b → range_sum b (λ i. one_if (ℕ_discrete n i) * h i) ≡ h n)
    → range_sum (suc b) (λ i. one_if (ℕ_discrete n i) * h i) ≡ h n
one_step b n h lt (yes e) k = subst (λ m. range_sum m (λ i. one_if (ℕ_discrete n i) * h i) + one_if (ℕ_discrete n m) * h m ≡ h n) e
    (rw (range_sum-past n n h (omega arith), one_if-yes (ℕ_discrete n n) refl) (omega arith))
one_step b n h lt (no f) k =
    let z : one_if (ℕ_discrete n b) ≡ 0 = one_if-no (ℕ_discrete n b) f in
    let e : range_sum b (λ i. one_if (ℕ_discrete n i) * h i) ≡ h n = k (omega (arith, f)) in
    rw (z, e) (omega arith)

pub range_sum-one : (b n : ℕ) (h : ℕ → ℕ) → n < b → range_sum b (λ i. one_if (ℕ_discrete n i) * h i) ≡ h n
range_sum-one zero n h lt = absurd (omega arith)
range_sum-one (suc b) n h lt = one_step b n h lt (ℕ_discrete n b) (λ k. range_sum-one b n h k)

mutual
  pub by_counts : (b : ℕ) (t : Tree ℕ) (h : ℕ → ℕ) → AllLeaves t (λ i. i < b) → sum_leaves t h ≡ range_sum b (λ i. occurs i t * h i)
  by_counts b (leaf n) h k = sym (range_sum-one b n h k)
  by_counts b (node l r) h k = by_counts_row b r h k

  pub by_counts_row : (b : ℕ) (r : Row ℕ) (h : ℕ → ℕ) → AllRow r (λ i. i < b) → sum_row r h ≡ range_sum b (λ i. occurs_row i r * h i)
  by_counts_row b none h k = sym (range_sum-zero b h)
  by_counts_row b (more t r) h k =
      ap₂ (λ m n. m + n) (by_counts b t h k.0) (by_counts_row b r h k.1) ∙ sym (range_sum-add b (λ i. occurs i t) (λ i. occurs_row i r) h)

pub range_sum-none : (b : ℕ) (f : ℕ → ℕ) → ((i : ℕ) → f i ≡ 0) → range_sum b f ≡ 0
range_sum-none zero f h = refl
range_sum-none (suc b) f h = omega (arith, range_sum-none b f h, h b)
