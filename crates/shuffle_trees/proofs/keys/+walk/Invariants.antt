use Rattle.std.specs.Prelude.{◌≡◌}
use Rattle.std.proofs.Common.{drop}
use Rattle.shuffle_trees.proofs.Walking.{words_in}
use Rattle.shuffle_trees.proofs.keys.+walk.Given as goal

abbrev pub decreases-walk : goal.decreases-walk
decreases-walk l = goal.size-walk l

abbrev pub invariant-loop-input : goal.invariant-loop-input
invariant-loop-input l = record {
  word : l.word ≡ l.initial.word;
  none : words_in l.number (drop l.input-index l.input-items) ≡ words_in l.number l.input-items;
}
