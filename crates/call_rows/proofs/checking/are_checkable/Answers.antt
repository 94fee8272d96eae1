use Rattle.std.proofs.Common.{subst, refl}
use Rattle.std.specs.List.{All}
use Rattle.std.proofs.lemmas.List.{take_all}
use Rattle.std.proofs.lemmas.List.Elements.{All-more}
use Rattle.certificate_text.specs.Tails.{IsCheckableStep}
use Rattle.call_rows.proofs.checking.are_checkable.Goals as goal

pub loop-step-preserved : goal.loop-step-preserved
loop-step-preserved c =
    let d = c.args.document.now in
    All-more (IsCheckableStep d.field d.gens) c.args.steps.now c.loop-step.step-index c.step-item.result c.loop-step-test.true c.loop-step.invariant (subst (IsCheckableStep d.field d.gens) c.step-item.is (c.if-not-is_checkable_step.ensures refl))

pub returns : goal.returns
returns c e = let d = c.args.document.now in subst (All (IsCheckableStep d.field d.gens)) (take_all c.loop-step.step-index c.args.steps.now c.loop-step-test.false) c.loop-step.invariant
