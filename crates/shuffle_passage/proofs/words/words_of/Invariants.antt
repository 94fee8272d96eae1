use Rattle.std.proofs.Common.{◌≡◌, ◌++◌, ◌*◌, ◌≤◌, drop}
use Rattle.shuffle_passage.specs.WordTables.{words_from}
use Rattle.shuffle_passage.proofs.words.words_of.Given as goal

abbrev pub invariant-loop-index : goal.invariant-loop-index
invariant-loop-index l = record {
  words : l.words ++ words_from l.first (drop l.index l.table) ≡ words_from 0 l.table;
  few : l.first ≤ l.index * 720;
}
