use Rattle.std.proofs.Common.{subst, refl}
use Rattle.std.specs.List.{All}
use Rattle.std.proofs.lemmas.List.{take_all}
use Rattle.std.proofs.lemmas.List.Elements.{All-more}
use Rattle.symmetric_sums.specs.Terms.{FitsOver}
use Rattle.call_rows.proofs.checks.all_fit.Goals as goal

pub loop-sum-preserved : goal.loop-sum-preserved
loop-sum-preserved c =
    All-more (FitsOver c.args.field c.args.table.now) c.args.sums.now c.loop-sum.sum-index c.sum-item.result c.loop-sum-test.true c.loop-sum.invariant
    (subst (FitsOver c.args.field c.args.table.now) c.sum-item.is (c.if-not-fits.ensures.exact.0 refl))

pub returns : goal.returns
returns c e = subst (All (FitsOver c.args.field c.args.table.now)) (take_all c.loop-sum.sum-index c.args.sums.now c.loop-sum-test.false) c.loop-sum.invariant
