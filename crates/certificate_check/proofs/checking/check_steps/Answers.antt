use Rattle.std.proofs.Common.{◌+◌, ap, sym, subst, take}
use Rattle.std.specs.Prelude.{Err}
use Rattle.std.proofs.lemmas.Result.{IfOk-weaker}
use Rattle.certificate_text.specs.Tails.{IsCheckableStep}
use Rattle.certificate_check.specs.Blocks.{elements_of, StepHolds}
use Rattle.certificate_check.specs.Answers.{IsBlockVerdict}
use Rattle.certificate_check.specs.Checking.{IsChecked, IsRefusal}
use Rattle.certificate_check.proofs.HeldSteps.{refused-first, hold-more}
use Rattle.certificate_check.proofs.checking.check_steps.Goals as goal

pub check_step-requires-clause-step : goal.check_step-requires-clause-step
check_step-requires-clause-step c =
    let d = c.args.document.now in
    subst (IsCheckableStep d.field d.gens) (sym c.step-item.is) (c.requires.steps c.loop-step.step-index c.step-item.result c.loop-step-test.true)

pub returns-in-Err : goal.returns-in-Err
returns-in-Err c =
    let d = c.args.document.now in
    let i = c.loop-step.step-index in
    record {
      answer = IfOk-weaker c.refused.result (IsRefusal (c.loop-step.before + 1) c.in-Err.fault) (IsBlockVerdict d.field d.gens d.rels c.args.want.now c.args.steps.now)
          (λ answer r. refused-first d.field d.gens d.rels c.args.want.now c.args.steps.now i c.step-item.result c.in-Err.fault answer c.loop-step-test.true c.step-item.is c.loop-step.invariant.hold
          (subst (λ n. IsChecked d.field d.gens d.rels (elements_of (take n c.args.steps.now)) c.step-item.result (Err c.in-Err.fault)) c.loop-step.invariant.before c.in-Err.ensures)
          (subst (λ n. IsRefusal (n + 1) c.in-Err.fault answer) c.loop-step.invariant.before r)) c.refused.ensures;
    }

pub loop-step-preserved : goal.loop-step-preserved
loop-step-preserved c =
    let d = c.args.document.now in
    record {
      before = ap (λ n. n + 1) c.loop-step.invariant.before;
      hold = hold-more d.field d.gens d.rels c.args.steps.now c.loop-step.step-index c.step-item.result c.loop-step-test.true c.step-item.is c.loop-step.invariant.hold
          (subst (λ n. StepHolds d.field d.gens d.rels (elements_of (take n c.args.steps.now)) c.step-item.result) c.loop-step.invariant.before c.in_default.ensures);
    }
