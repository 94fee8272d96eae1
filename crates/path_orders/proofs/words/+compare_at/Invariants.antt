use Rattle.std.proofs.Common.{◌≡◌, drop}
use Rattle.shuffle_trees.proofs.Walking.{words_in}
use Rattle.path_orders.proofs.words.+compare_at.Given as goal

abbrev pub decreases-compare_at : goal.decreases-compare_at
decreases-compare_at l = goal.size-compare_at l

abbrev pub invariant-loop-input : goal.invariant-loop-input
invariant-loop-input l = words_in l.number (drop l.input-index l.input-items) ≡ words_in l.number l.input-items
