-- Blocks with their positions.
use Rattle.std.specs.Prelude.{ℕ, ◌≡◌, List, length, map}
use Rattle.std.specs.List.{All, range_with_len}
use Rattle.shuffle_sums.specs.Sorting.{block_at}
use Rattle.shuffle_sums.specs.declared.sorting.Entry.{Entry}

abbrev pub position : Entry → ℕ
position entry = entry.at

-- the blocks, each with its position, in their order
pub record AreEntries (blocks : List (List ℕ)) (entries : List Entry) : Type 0 where
  pub positions : map position entries ≡ range_with_len 0 (length blocks)
  pub blocks_are : All (λ (entry : Entry). entry.block.now ≡ block_at blocks entry.at) entries
