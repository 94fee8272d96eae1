use Rattle.std.proofs.Common.{◌≡◌, ◌++◌, replicate}
use Rattle.shuffle_sums.proofs.weighing.push_copies.Given as goal

abbrev pub invariant-loop : goal.invariant-loop
invariant-loop l = l.weights ≡ l.fn.weights ++ replicate l.counter l.weight
