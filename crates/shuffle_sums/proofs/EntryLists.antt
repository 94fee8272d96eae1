-- Blocks with their positions, sorted.
use Rattle.std.specs.Prelude.{false}
use Rattle.std.proofs.Common.{◌≡◌, ℕ, zero, suc, ◌+◌, ◌<◌, List, [], ◌∷◌, length, map, get_or, ap, sym, ◌∙◌, subst, arith}
use mathlib.Core.List.{◌++◌}
use mathlib.Core.Path.{ap₂}
use Rattle.std.specs.List.{All, range_with_len}
use Rattle.std.specs.List.Sorted.{IsPermutation, IsSorted}
use Rattle.std.specs.declared.cmp.Ordering.{Ordering}
use Rattle.std.specs.Ordering.{nat_cmp, is_lt}
use Rattle.std.specs.Cmp.Lexicographic.{slice_cmp}
use Rattle.std.proofs.lemmas.List.{get_or-map, map-append}
use Rattle.std.proofs.Math.ListN.{length-map}
use Rattle.std.proofs.lemmas.List.Elements.{All-get_or}
use Rattle.std.proofs.lemmas.List.Sorted.{All-permutation, IsPermutation-map}
use Rattle.shuffle_sums.specs.Sorting.{block_at}
use Rattle.shuffle_sums.specs.Entries.{AreEntries, position}
use Rattle.shuffle_sums.specs.declared.sorting.Entry.{Entry}

range_more : (a n : ℕ) → range_with_len a (suc n) ≡ range_with_len a n ++ ((a + n) ∷ [])
range_more a zero = ap (λ m. m ∷ []) (let e : a ≡ a + 0 = omega arith in e)
range_more a (suc n) = ap (λ l. a ∷ l) (range_more (a + 1) n ∙ ap (λ m. range_with_len (a + 1) n ++ (m ∷ [])) (let e : a + 1 + n ≡ a + suc n = omega arith in e))

-- one more position
pub positions_more : (entries : List Entry) (n : ℕ) (entry : Entry) → map position entries ≡ range_with_len 0 n → position entry ≡ n → map position (entries ++ (entry ∷ [])) ≡ range_with_len 0 (n + 1)
positions_more entries n entry e at =
    map-append position entries (entry ∷ []) ∙ ap₂ (λ l m. l ++ (m ∷ [])) e (at ∙ (let z : n ≡ 0 + n = omega arith in z)) ∙ sym (range_more 0 n)
    ∙ ap (range_with_len 0) (let s : suc n ≡ n + 1 = omega arith in s)

-- the positions of sorted entries are all positions
pub all_positions : (blocks : List (List ℕ)) (before after : List Entry) (made : List ℕ) → AreEntries blocks before → IsPermutation before after → made ≡ map position after → IsPermutation (range_with_len 0 (length blocks)) made
all_positions blocks before after made are moved is =
    subst (IsPermutation (range_with_len 0 (length blocks))) (sym is) (subst (λ l. IsPermutation l (map position after)) are.positions (IsPermutation-map position before after moved))

sorted_by_blocks : (blocks : List (List ℕ)) (entries : List Entry) (cmp : Entry → Entry → Ordering)
    → ((x y : Entry) → is_lt (cmp x y) ≡ false → is_lt (slice_cmp nat_cmp x.block.now y.block.now) ≡ false)
    → All (λ (entry : Entry). entry.block.now ≡ block_at blocks entry.at) entries → IsSorted cmp entries → IsSorted (slice_cmp nat_cmp) (map (block_at blocks) (map position entries))
sorted_by_blocks blocks [] cmp first are up k d low within = absurd (omega (arith, within))
sorted_by_blocks blocks (e ∷ es) cmp first are up k d low within =
    let entries = e ∷ es in
    let size = length-map entries position in
    let block_size = length-map (map position entries) (block_at blocks) in
    let here : k + 1 < length entries = omega (arith, within, size, block_size) in
    let there : k < length entries = omega (arith, here) in
    let P : Entry → Type 0 = λ entry. entry.block.now ≡ block_at blocks entry.at in
    let one = All-get_or P entries (k + 1) e here are in
    let other = All-get_or P entries k e there are in
    let at_one : get_or (map (block_at blocks) (map position entries)) (k + 1) d ≡ (get_or entries (k + 1) e).block.now =
    get_or-map (block_at blocks) (map position entries) (k + 1) 0 d (omega (arith, here, size)) ∙ ap (block_at blocks) (get_or-map position entries (k + 1) e 0 here) ∙ sym one in
    let at_other : get_or (map (block_at blocks) (map position entries)) k d ≡ (get_or entries k e).block.now =
    get_or-map (block_at blocks) (map position entries) k 0 d (omega (arith, there, size)) ∙ ap (block_at blocks) (get_or-map position entries k e 0 there) ∙ sym other in
    ap₂ (λ x y. is_lt (slice_cmp nat_cmp x y)) at_one at_other ∙ first (get_or entries (k + 1) e) (get_or entries k e) (up k e (omega arith) here)

-- the blocks at the positions of sorted entries do not fall
pub blocks_sorted : (blocks : List (List ℕ)) (before after : List Entry) (made : List ℕ) (cmp : Entry → Entry → Ordering)
    → ((x y : Entry) → is_lt (cmp x y) ≡ false → is_lt (slice_cmp nat_cmp x.block.now y.block.now) ≡ false)
    → AreEntries blocks before → IsPermutation before after → IsSorted cmp after → made ≡ map position after → IsSorted (slice_cmp nat_cmp) (map (block_at blocks) made)
blocks_sorted blocks before after made cmp first are moved up is =
    let P : Entry → Type 0 = λ entry. entry.block.now ≡ block_at blocks entry.at in
    subst (λ l. IsSorted (slice_cmp nat_cmp) (map (block_at blocks) l)) (sym is) (sorted_by_blocks blocks after cmp first (All-permutation P before after moved are.blocks_are) up)
