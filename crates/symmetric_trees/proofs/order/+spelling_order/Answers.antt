use Rattle.std.proofs.Common.{◌≡◌, ap, arith, length}
use Rattle.operad_ideals.proofs.TreeOrder.{vertices-order, ended-less, ended-equal}
use Rattle.symmetric_trees.proofs.order.+spelling_order.Goals as goal

pub returns-then-len : goal.returns-then-len
returns-then-len t c = let all : length c.as_slice-input-items.result.now ≡ length c.in-Node.inputs = ap length c.as_slice-input-items.ensures in record {
  compared =
      vertices-order c.args.one.now c.args.other.now c.in-Node.generator c.in-Node-other-2.compared c.loop-at.at c.in-Node.inputs c.in-Node-other-2.others c.as_slice-input-items.result.now _
      c.in-Node.is c.in-Node-other-2.is c.in-Equal.ensures c.as_slice-input-items.ensures c.loop-at.invariant
      (ended-less c.as_slice-input-items.result.now c.in-Node-other-2.others c.loop-at.at (omega arith) (omega arith));
}

pub returns-else-len : goal.returns-else-len
returns-else-len t c = let all : length c.as_slice-input-items.result.now ≡ length c.in-Node.inputs = ap length c.as_slice-input-items.ensures in record {
  compared =
      vertices-order c.args.one.now c.args.other.now c.in-Node.generator c.in-Node-other-2.compared c.loop-at.at c.in-Node.inputs c.in-Node-other-2.others c.as_slice-input-items.result.now _
      c.in-Node.is c.in-Node-other-2.is c.in-Equal.ensures c.as_slice-input-items.ensures c.loop-at.invariant
      (ended-equal c.as_slice-input-items.result.now c.in-Node-other-2.others c.loop-at.at (omega arith) (omega arith));
}
