-- The law of blocks.
use Rattle.std.specs.Prelude.{◌≡◌}
use Rattle.std.specs.Ordering.{nat_cmp}
use Rattle.std.specs.Cmp.Lexicographic.{slice_cmp}
use Rattle.shuffle_insertions.specs.Keys.{Key, path, pathshort, leafpath, weightpath}
use Rattle.shuffle_insertions.specs.KeyBlocks.{path_block, short_block, leaf_block, weight_block, AreComparableKeys}

-- Blocks of alike keys compare, number by number, as the keys do by each of the four orders.
abbrev pub BlocksCompare : Type 0
BlocksCompare = (a b : Key) → AreComparableKeys a b
    → (slice_cmp nat_cmp (path_block a) (path_block b) ≡ path a b)
    × (slice_cmp nat_cmp (short_block a) (short_block b) ≡ pathshort a b)
    × (slice_cmp nat_cmp (leaf_block a) (leaf_block b) ≡ leafpath a b)
    × (slice_cmp nat_cmp (weight_block a) (weight_block b) ≡ weightpath a b)
