use Rattle.std.proofs.Common.{◌≡◌, ◌++◌, ◌+◌, ◌-◌, ◌*◌, ◌≤◌, length, drop, map}
use Rattle.shuffle_insertions.specs.KeyBlocks.{marked}
use Rattle.shuffle_trees.specs.FlatKeys.{letters}
use Rattle.path_orders.proofs.block.Block.push_words.Given as goal

abbrev pub invariant-loop-word : goal.invariant-loop-word
invariant-loop-word l = record {
  room : length l.self + 16 * (length l.words - l.word-index) ≤ length l.initial.self + 16 * length l.words;
  made : l.self ++ marked l.short (map letters (drop l.word-index l.words)) ≡ l.initial.self ++ marked l.short (map letters l.words);
}
