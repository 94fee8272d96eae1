use Rattle.std.proofs.Common.{sym, subst}
use Rattle.symmetric_sums.proofs.Expansions.{err_is}
use Rattle.certificate_check.specs.Blocks.{elements_of}
use Rattle.certificate_check.specs.Checking.{IsChecked}
use Rattle.certificate_check.proofs.HeldSteps.{failed-uses}
use Rattle.certificate_check.proofs.checking.check_step.Goals as goal

pub returns-in_err-sum : goal.returns-in_err-sum
returns-in_err-sum c =
    let d = c.args.document.now in
    subst (IsChecked d.field d.gens d.rels (elements_of c.args.earlier.now) c.args.step.now) (sym (err_is c.from_residual.result c.in_err-sum.field-0.0 c.from_residual.ensures.0 c.from_residual.ensures.1))
    (failed-uses d.field d.gens d.rels (elements_of c.args.earlier.now) c.args.step.now c.as_slice.result.now c.in_err-sum.field-0.0 c.as_slice.ensures c.in_err-sum.ensures.used)
