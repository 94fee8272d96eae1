use Rattle.std.proofs.Common.{◌+◌, ap, arith, subst, sym}
use Rattle.certificate_text.specs.Tails.{IsReadyBlock}
use Rattle.certificate_check.specs.Answers.{IsBlockVerdict}
use Rattle.operad_run.proofs.BlockChecks.{hold_more, refused_at, all_hold, accepted_holds}
use Rattle.operad_run.proofs.checks.first_refusal.Goals as goal

pub check_block-requires-clause-steps : goal.check_block-requires-clause-steps
check_block-requires-clause-steps c =
    let d = c.args.document.now in
    (subst (IsReadyBlock d.field d.gens) (sym c.block-item.is) (c.requires.ready c.loop-block.block-index c.block-item.result c.loop-block-test.true)).steps

pub returns-in-Refused : goal.returns-in-Refused
returns-in-Refused c =
    let d = c.args.document.now in
    let b = c.block-item.result in
    refused_at d c.args.blocks.now c.loop-block.block-index b (c.loop-block.before + 1) c.in-Refused.step c.in-Refused.cause c.loop-block-test.true c.block-item.is c.loop-block.invariant.hold
    (subst (IsBlockVerdict d.field d.gens d.rels b.want b.steps) c.in-Refused.is c.in_ok-step.ensures.answer) (ap (λ n. n + 1) c.loop-block.invariant.before)

pub loop-block-preserved : goal.loop-block-preserved
loop-block-preserved c =
    let d = c.args.document.now in
    let b = c.block-item.result in
    record {
      before = ap (λ n. n + 1) c.loop-block.invariant.before;
      hold = hold_more d c.args.blocks.now c.loop-block.block-index b c.loop-block-test.true c.block-item.is c.loop-block.invariant.hold
          (accepted_holds d b c.in_ok-step.field-0 c.in_default.not-Refused c.in_ok-step.ensures.answer);
    }

pub returns : goal.returns
returns c = all_hold c.args.document.now c.args.blocks.now c.loop-block.block-index (omega (arith, c.loop-block-test.false)) c.loop-block.invariant.hold
