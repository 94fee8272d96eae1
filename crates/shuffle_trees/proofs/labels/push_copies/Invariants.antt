use Rattle.std.proofs.Common.{◌≡◌, ◌++◌, replicate}
use Rattle.shuffle_trees.proofs.labels.push_copies.Given as goal

abbrev pub invariant-loop : goal.invariant-loop
invariant-loop l = l.arities ≡ l.fn.arities ++ replicate l.counter l.arity
