use Rattle.std.proofs.Common.{◌≡◌, drop}
use Rattle.shuffle_trees.proofs.Walking.{words_in}
use Rattle.path_orders.proofs.words.holder.Given as goal

abbrev pub invariant-loop-input : goal.invariant-loop-input
invariant-loop-input l = words_in l.number (drop l.input-index l.inputs) ≡ words_in l.number l.inputs
