-- The table that gives each number's place in a chain.
use Rattle.std.proofs.Common.{◌≡◌, ℕ, ◌+◌, ◌<◌, ◌≤◌, List, length, replicate, sym, ◌∙◌, ap, arith, subst, get_or-set_same, get_or-set_other}
use Rattle.std.specs.Prelude.{slice_index, slice_set}
use native.Mathlib.Decide.{ℕ_discrete}
use Rattle.common_multiples.specs.Listing.{IsOneToOne}
use Rattle.shuffle_trees.proofs.Counts.{no_times}

-- the places of those at 1 to `at` stand in the table, and 0 elsewhere
pub record IsInverseSoFar (f : ℕ → ℕ) (table : List ℕ) (at : ℕ) : Type 0 where
  pub each : (i : ℕ) → 0 < i → i ≤ at → slice_index table (f i) ≡ i
  pub only : (z : ℕ) → 0 < slice_index table z → (slice_index table z ≤ at) × (f (slice_index table z) ≡ z)

pub inverse_start : (f : ℕ → ℕ) → IsInverseSoFar f (replicate 256 0) 0
inverse_start f = record {
  each = λ i p le. absurd (omega (arith, p, le));
  only = λ z h. let e : slice_index (replicate 256 0) z ≡ 0 = no_times z in absurd (omega (arith, h, e));
}

pub inverse_next : (m : ℕ) (f : ℕ → ℕ) (table : List ℕ) (at : ℕ) → IsOneToOne m f → at < m → f (at + 1) < length table → IsInverseSoFar f table at → IsInverseSoFar f (slice_set table (f (at + 1)) (at + 1)) (at + 1)
inverse_next m f table at once lt there h = record {
  each = λ i p le. each i p le (ℕ_discrete i (at + 1));
  only = λ z. only z (ℕ_discrete z (f (at + 1)));
}
  where
    each : (i : ℕ) → 0 < i → i ≤ at + 1 → Dec (i ≡ at + 1) → slice_index (slice_set table (f (at + 1)) (at + 1)) (f i) ≡ i
    each i p le (yes e) = subst (λ j. slice_index (slice_set table (f (at + 1)) (at + 1)) (f j) ≡ j) (sym e) (get_or-set_same table (f (at + 1)) (at + 1) 0 there)
    each i p le (no n) =
        get_or-set_other table (f (at + 1)) (f i) (at + 1) 0 (λ e. n (once i (at + 1) p (omega (arith, le, lt)) (omega arith) (omega (arith, lt)) e))
        ∙ h.each i p (omega (arith, le, n))

    only : (z : ℕ) → Dec (z ≡ f (at + 1)) → 0 < slice_index (slice_set table (f (at + 1)) (at + 1)) z
        → (slice_index (slice_set table (f (at + 1)) (at + 1)) z ≤ at + 1) × (f (slice_index (slice_set table (f (at + 1)) (at + 1)) z) ≡ z)
    only z (yes e) p =
        let s : slice_index (slice_set table (f (at + 1)) (at + 1)) z ≡ at + 1 = ap (slice_index (slice_set table (f (at + 1)) (at + 1))) e ∙ get_or-set_same table (f (at + 1)) (at + 1) 0 there in
        (omega (arith, s), ap f s ∙ sym e)
    only z (no n) p =
        let s : slice_index (slice_set table (f (at + 1)) (at + 1)) z ≡ slice_index table z = get_or-set_other table (f (at + 1)) z (at + 1) 0 n in
        let k = h.only z (omega (arith, p, s)) in
        (omega (arith, s, k.0), ap f s ∙ k.1)
