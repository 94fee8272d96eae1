use Rattle.cofactor_log.proofs.Citing.{cites-at}
use Rattle.identity_queries.proofs.renumbering.new_uses.Goals as goal

pub new_use-requires : goal.new_use-requires
new_use-requires c = record {
  within = λ k e. c.requires.within k (cites-at c.args.uses.now c.loop-item.item-index c.item-item.result k c.loop-item-test.true c.item-item.is e);
}
