use Rattle.std.proofs.Common.{subst, ◌-◌}
use Rattle.shuffle_sums.specs.Sorting.{compare_by}
use Rattle.division.specs.Gathered.{CameFrom}
use Rattle.reduction_rows.proofs.LoneElement.{nothing_given}
use Rattle.reduction_rows.proofs.cones.free_cone.Goals as goal

pub cone_of-requires-clause-fit : goal.cone_of-requires-clause-fit
cone_of-requires-clause-fit g c =
    nothing_given (compare_by g.O.TreeOrder.by_keys (g.O.TreeOrder.weights c.args.order.now)) (c.args.prime - 1) c.args.shelf.now.trees c.args.all.now c.meet_all.new.ids (g.met.O.TreeOrder.is_order c.args.order.now) c.requires.one_arity
    (subst (λ old. CameFrom old c.meet_all.new.ids c.args.all.now) c.new-ids.ensures c.meet_all.ensures.only)
