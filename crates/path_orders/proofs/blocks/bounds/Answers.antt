use Rattle.std.proofs.Common.{arith}
use Rattle.path_orders.proofs.JoinedLists.{starts_before}
use Rattle.path_orders.proofs.blocks.bounds.Goals as goal

pub returns-clause-within : goal.returns-clause-within
returns-clause-within c =
    let s = starts_before 0 c.args.count c.args.ends.now c.args.at c.requires.ends c.requires.place in
    let from = c.start-from.ensures in
    let first = s.0 in
    (omega (arith, first, from), s.1)
