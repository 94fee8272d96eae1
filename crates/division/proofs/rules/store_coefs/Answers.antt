use Rattle.division.proofs.Ruling.{stored_step}
use Rattle.division.proofs.rules.store_coefs.Goals as goal

pub loop-element-preserved : goal.loop-element-preserved
loop-element-preserved c =
    stored_step c.args.table.now c.loop-element.table c.add_coefs.new.self c.loop-element.froms.items c.push.new.self.items c.args.coefs.now c.loop-element.element-index c.in_ok-from.from c.element-item.result c.as_slice.result.now
    c.loop-element.invariant c.in_ok-from.ensures.added c.in_ok-push.ensures.items c.in_ok-from.ensures.from c.as_slice.ensures c.element-item.is c.loop-element-test.true
