use Rattle.std.proofs.Common.{◌≡◌, map}
use Rattle.std.specs.List.{All, range_with_len}
use Rattle.shuffle_sums.specs.Sorting.{block_at}
use Rattle.shuffle_sums.specs.Entries.{position}
use Rattle.shuffle_sums.specs.declared.sorting.Entry.{Entry}
use Rattle.shuffle_sums.proofs.sorting.entries.Given as goal

abbrev pub invariant-loop-at : goal.invariant-loop-at
invariant-loop-at l = record {
  positions : map position l.made.items ≡ range_with_len 0 l.at;
  blocks_are : All (λ (entry : Entry). entry.block.now ≡ block_at l.blocks entry.at) l.made.items;
}
