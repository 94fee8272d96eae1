-- Positions of places, and places of positions.
use Rattle.std.specs.Prelude.{slice_index}
use Rattle.std.proofs.Common.{◌≡◌, ℕ, ◌+◌, ◌<◌, ◌≤◌, List, length, set, sym, ◌∙◌, ap, arith, subst}
use native.Mathlib.Decide.{ℕ_discrete}
use Rattle.std.specs.List.{range_with_len}
use Rattle.std.specs.List.Sorted.{IsPermutation}
use Rattle.std.proofs.lemmas.List.{length-set, get_or-set_other}
use Rattle.std.proofs.lemmas.Grind.{get_or-set_at}
use Rattle.division.proofs.LaidParts.{get_or_any}
use Rattle.std.proofs.lemmas.List.FromFn.{length-range_with_len, get_or-range_with_len}
use Rattle.std.proofs.lemmas.List.Sorted.{length_permutation, Contains-permutation}
use Rattle.shuffle_sums.proofs.RisingBlocks.{position_within, two_positions}
use Rattle.division.specs.Ranks.{AreRanks}

-- what holds after so many positions
pub record AreRanksSoFar (order ranks : List ℕ) (n at : ℕ) : Type 0 where
  pub as_many : length ranks ≡ n
  pub so_far : (j : ℕ) → j < at → slice_index ranks (slice_index order j) ≡ j

pub ranks_none : (order ranks : List ℕ) (n : ℕ) → length ranks ≡ n → AreRanksSoFar order ranks n 0
ranks_none order ranks n e = record { as_many = e; so_far = λ j lt. absurd (omega (arith, lt)) }

pub ranks_more : (order ranks : List ℕ) (n at : ℕ) → IsPermutation (range_with_len 0 n) order → at < length order → AreRanksSoFar order ranks n at → AreRanksSoFar order (set ranks (slice_index order at) at) n (at + 1)
ranks_more order ranks n at each lt h = record { as_many = length-set ranks (slice_index order at) at ∙ h.as_many; so_far = λ j low. by j low (ℕ_discrete j at) }
  where
    by : (j : ℕ) → j < at + 1 → Dec (j ≡ at) → slice_index (set ranks (slice_index order at) at) (slice_index order j) ≡ j
    by j low (yes e) =
        let here : slice_index order j ≡ slice_index order at = ap (slice_index order) e in
        get_or-set_at ranks (slice_index order at) (slice_index order j) at 0 here (let w = position_within n order at each lt in let l = h.as_many in omega (arith, w, l)) ∙ sym e
    by j low (no apart) =
        let less : j < at = grind arith in
        get_or-set_other ranks (slice_index order at) (slice_index order j) at 0 (λ q. two_positions n order j at each less lt q) ∙ h.so_far j less

pub ranks_all : (order ranks : List ℕ) (n at : ℕ) → IsPermutation (range_with_len 0 n) order → length order ≤ at → AreRanksSoFar order ranks n at → AreRanks order ranks n
ranks_all order ranks n at each le h = record {
  each = each;
  as_many = h.as_many;
  within = λ k lt. let p = place k lt in subst (λ i. i < n) (sym (rank_of k lt)) p.1;
  back = λ k lt. let p = place k lt in ap (slice_index order) (rank_of k lt) ∙ p.2;
}
  where
    size : length order ≡ n
    size = length_permutation (range_with_len 0 n) order each ∙ length-range_with_len 0 n

    place : (k : ℕ) → k < n → (p : ℕ) × (p < n) × (slice_index order p ≡ k)
    place k lt =
        let c = Contains-permutation (range_with_len 0 n) order k each (k, (let l = length-range_with_len 0 n in omega (arith, l, lt)), (let g = get_or-range_with_len 0 n k k lt in omega (arith, g))) in
        (c.0, (let l = size in let w = c.1 in omega (arith, l, w)), get_or_any order c.0 0 k c.1 ∙ c.2)

    rank_of : (k : ℕ) (lt : k < n) → slice_index ranks k ≡ (place k lt).0
    rank_of k lt = let p = place k lt in ap (slice_index ranks) (sym p.2) ∙ h.so_far p.0 (let l = size in let w = p.1 in omega (arith, l, w, le))
