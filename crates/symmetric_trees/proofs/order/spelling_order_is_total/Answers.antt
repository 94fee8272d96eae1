use Rattle.operad_ideals.proofs.TreeOrder.{order_is_total}
use Rattle.symmetric_trees.proofs.order.spelling_order_is_total.Goals as goal

pub returns : goal.returns
returns c = record { law = order_is_total }
