-- Positions that sort blocks sort what the blocks stand for.
use Rattle.std.specs.Prelude.{true, false}
use Rattle.std.proofs.Common.{◌≡◌, ℕ, ◌<◌, List, [], length, map, get_or, eqb, refl, sym, ◌∙◌, arith}
use mathlib.Core.Path.{ap₂}
use Rattle.std.specs.List.{All, IsDistinct, range_with_len}
use Rattle.std.specs.List.Sorted.{IsPermutation, IsSorted}
use Rattle.std.specs.declared.cmp.Ordering.{Ordering}
use Rattle.std.specs.declared.cmp.Ordering.TheVariants.{Less, Equal, Greater}
use Rattle.std.specs.Ordering.{nat_cmp, is_lt, ordering_reverse}
use Rattle.std.specs.Cmp.Lexicographic.{slice_cmp}
use Rattle.std.proofs.lemmas.Cmp.{nat_list_cmp_total}
use Rattle.std.proofs.lemmas.List.{get_or-map}
use Rattle.std.proofs.Math.ListN.{length-map}
use Rattle.std.proofs.lemmas.List.FromFn.{length-range_with_len, get_or-range_with_len}
use Rattle.std.proofs.lemmas.List.Elements.{All-get_or, All-from_get_or}
use Rattle.std.proofs.lemmas.List.Sorted.{All-permutation, ranks_by, sorted_far}
use Rattle.std.proofs.lemmas.Map.Keys.{IsDistinct-from_apart, apart_from_distinct, IsDistinct-IsPermutation}
use Rattle.std.proofs.lemmas.Bool.Decides.{nat_tests}
use Rattle.shuffle_sums.specs.Sorting.{block_at, Rise}

-- ---- each position once

apart : (a b : ℕ) → a < b → eqb a b ≡ false
apart a b h = grind (arith, nat_tests)

same : (a b : ℕ) → a ≡ b → eqb a b ≡ true
same a b e = grind (arith, nat_tests)

flips : (a b : ℕ) → eqb a b ≡ eqb b a
flips a b = grind (arith, nat_tests)

positions_distinct : (n : ℕ) → IsDistinct eqb (range_with_len 0 n)
positions_distinct n = IsDistinct-from_apart eqb (range_with_len 0 n) (λ i j d lt within.
    let size = length-range_with_len 0 n in
    let first = get_or-range_with_len 0 n i d (omega (arith, size, lt, within)) in
    let second = get_or-range_with_len 0 n j d (omega (arith, size, within)) in
    apart (get_or (range_with_len 0 n) i d) (get_or (range_with_len 0 n) j d) (omega (arith, first, second, lt)))

positions_within : (n : ℕ) → All (λ p. p < n) (range_with_len 0 n)
positions_within n = All-from_get_or (λ p. p < n) (range_with_len 0 n) 0 (λ i within.
    let size = length-range_with_len 0 n in
    let here = get_or-range_with_len 0 n i 0 (omega (arith, size, within)) in
    omega (arith, size, here, within))

-- two places of a list of all positions have two positions
pub two_positions : (n : ℕ) (positions : List ℕ) (i j : ℕ) → IsPermutation (range_with_len 0 n) positions → i < j → j < length positions → get_or positions i 0 ≡ get_or positions j 0 → ⊥
two_positions n positions i j each lt within e =
    let distinct = IsDistinct-IsPermutation eqb flips (range_with_len 0 n) positions each (positions_distinct n) in
    let not_same : eqb (get_or positions i 0) (get_or positions j 0) ≡ false = apart_from_distinct eqb positions i j 0 distinct lt within in
    let are_same : eqb (get_or positions i 0) (get_or positions j 0) ≡ true = same (get_or positions i 0) (get_or positions j 0) e in
    cc

pub position_within : (n : ℕ) (positions : List ℕ) (i : ℕ) → IsPermutation (range_with_len 0 n) positions → i < length positions → get_or positions i 0 < n
position_within n positions i each within = All-get_or (λ p. p < n) positions i 0 within (All-permutation (λ p. p < n) (range_with_len 0 n) positions each (positions_within n))

-- ---- blocks that rise

decided : (o p : Ordering) → o ≡ ordering_reverse p → is_lt p ≡ false → (o ≡ Equal → ⊥) → o ≡ Less
decided Less p e h f = refl
decided Equal p e h f = absurd (f refl)
decided Greater Less e h f = absurd (cc h)
decided Greater Equal e h f = absurd (cc e)
decided Greater Greater e h f = absurd (cc e)

pub rising : {X : Type 0} (blocks : List (List ℕ)) (thing : ℕ → X) (compare : X → X → Ordering) (positions : List ℕ)
    → ((p q : ℕ) → p < length blocks → q < length blocks → slice_cmp nat_cmp (block_at blocks p) (block_at blocks q) ≡ compare (thing p) (thing q))
    → ((p q : ℕ) → p < length blocks → q < length blocks → compare (thing p) (thing q) ≡ Equal → p ≡ q)
    → IsPermutation (range_with_len 0 (length blocks)) positions → IsSorted (slice_cmp nat_cmp) (map (block_at blocks) positions) → Rise compare (map thing positions)
rising {X} blocks thing compare positions agree only each up i j d lt within =
    let R : List ℕ → List ℕ → Ordering = slice_cmp nat_cmp in
    let size = length-map positions thing in
    let block_size = length-map positions (block_at blocks) in
    let p = get_or positions i 0 in
    let q = get_or positions j 0 in
    let here : i < length positions = omega (arith, size, lt, within) in
    let there : j < length positions = omega (arith, size, within) in
    let pw = position_within (length blocks) positions i each here in
    let qw = position_within (length blocks) positions j each there in
    let far = sorted_far (λ x y. is_lt (R x y)) (ranks_by nat_list_cmp_total (λ (x : List ℕ). x)) (map (block_at blocks) positions) up i j [] (omega (arith, lt)) (omega (arith, block_size, there)) in
    let first : get_or (map (block_at blocks) positions) i [] ≡ block_at blocks p = get_or-map (block_at blocks) positions i 0 [] here in
    let second : get_or (map (block_at blocks) positions) j [] ≡ block_at blocks q = get_or-map (block_at blocks) positions j 0 [] there in
    let not_less : is_lt (R (block_at blocks q) (block_at blocks p)) ≡ false = ap₂ (λ x y. is_lt (R x y)) (sym second) (sym first) ∙ far in
    let turn : R (block_at blocks p) (block_at blocks q) ≡ ordering_reverse (R (block_at blocks q) (block_at blocks p)) = nat_list_cmp_total.antisymm (block_at blocks p) (block_at blocks q) in
    let less : R (block_at blocks p) (block_at blocks q) ≡ Less = decided (R (block_at blocks p) (block_at blocks q)) (R (block_at blocks q) (block_at blocks p)) turn not_less
    (λ e. two_positions (length blocks) positions i j each lt there (only p q pw qw (sym (agree p q pw qw) ∙ e))) in
    ap₂ compare (get_or-map thing positions i 0 d here) (get_or-map thing positions j 0 d there) ∙ sym (agree p q pw qw) ∙ less
