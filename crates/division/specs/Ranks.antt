-- Places of gathered trees, and positions in the sorted list.
use Rattle.std.specs.Prelude.{ℕ, ◌≡◌, ◌<◌, ◌≤◌, ◌+◌, List, [], length, map, slice_get, slice_range, slice_index, slice_index_or, Option, Some, None}
use Rattle.std.specs.List.{All, range_with_len, zip}
use Rattle.std.specs.List.Sorted.{IsPermutation}
use Rattle.modular_sums.specs.RuleTables.{Table, IsRuleTail}

-- `order` has the place of each position, and `ranks` the position of each place, of which there are n
pub record AreRanks (order ranks : List ℕ) (n : ℕ) : Type 0 where
  pub each : IsPermutation (range_with_len 0 n) order
  pub as_many : length ranks ≡ n
  pub within : (k : ℕ) → k < n → slice_index ranks k < n
  pub back : (k : ℕ) → k < n → slice_index order (slice_index ranks k) ≡ k

-- the positions of the places of a tail
abbrev pub tail_at : List (List ℕ) → List ℕ → ℕ → List ℕ
tail_at tails ranks k = map (slice_index ranks) (slice_index_or tails k [])

-- What rules are made of, for n positions: each position's id has an entry in `found`, and where that is an element,
-- the positions of the tail with the coefficients of the element are a tail for the position.
pub record CanRule (q : ℕ) (coefs : List (List ℕ)) (found : List (Option ℕ)) (ids : List ℕ) (tails : List (List ℕ)) (order ranks : List ℕ) : Type 0 where
  pub ranks_are : AreRanks order ranks (length ids)
  pub as_many : length tails ≡ length ids
  pub entries : (k : ℕ) → k < length ids → slice_index ids k < length found
  pub places : (k : ℕ) → k < length ids → All (λ j. j < length ids) (slice_index_or tails k [])
  pub tails_are : (p e : ℕ) → p < length ids → slice_get found (slice_index ids (slice_index order p)) ≡ Some (Some e)
      → (c : List ℕ) × (slice_get coefs e ≡ Some c) × (length c ≡ length (tail_at tails ranks (slice_index order p))) × IsRuleTail q p (zip c (tail_at tails ranks (slice_index order p)))

-- The rule of a position: none where its id has no element, and else the coefficients of its element at the positions of its tail.
pub record IsRuledBy (coefs : List (List ℕ)) (found : List (Option ℕ)) (ids : List ℕ) (tails : List (List ℕ)) (order ranks : List ℕ) (p : ℕ) (rule : Option (Option (List (ℕ × ℕ)))) : Type 0 where
  pub none : slice_get found (slice_index ids (slice_index order p)) ≡ Some None → rule ≡ Some None
  pub some : (e : ℕ) (c : List ℕ) → slice_get found (slice_index ids (slice_index order p)) ≡ Some (Some e) → slice_get coefs e ≡ Some c
      → rule ≡ Some (Some (zip c (tail_at tails ranks (slice_index order p))))

-- each position has its rule
pub record AreRules (coefs : List (List ℕ)) (found : List (Option ℕ)) (ids : List ℕ) (tails : List (List ℕ)) (order ranks : List ℕ) (rules : Table) : Type 0 where
  pub sized : length rules ≡ length ids
  pub each : (p : ℕ) → p < length ids → IsRuledBy coefs found ids tails order ranks p (slice_get rules p)

-- the coefficients of each element stand in a list, from an entry of `froms` on
pub record AreStored (stored froms : List ℕ) (coefs : List (List ℕ)) : Type 0 where
  pub as_many : length froms ≡ length coefs
  pub within : (e : ℕ) (c : List ℕ) → slice_get coefs e ≡ Some c → slice_index froms e + length c ≤ length stored
  pub are : (e : ℕ) (c : List ℕ) → slice_get coefs e ≡ Some c → slice_range stored (slice_index froms e) (slice_index froms e + length c) ≡ c
