use Rattle.std.proofs.Common.{arith}
use Rattle.reduction_rows.proofs.gatherings.write_list.Goals as goal

pub meet_again-requires-clause-low : goal.meet_again-requires-clause-low
meet_again-requires-clause-low c = λ k d lt.
    let x = c.in_ok-write_reached.ensures.held k d lt in
    let few = c.store.ensures.shelf.store.few in
    omega (arith, x, few)
