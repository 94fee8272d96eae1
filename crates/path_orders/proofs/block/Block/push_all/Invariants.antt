use Rattle.std.proofs.Common.{◌≡◌, ◌++◌, take}
use Rattle.path_orders.proofs.block.Block.push_all.Given as goal

abbrev pub invariant-loop-number : goal.invariant-loop-number
invariant-loop-number l = l.self ≡ l.initial.self ++ take l.number-index l.numbers
