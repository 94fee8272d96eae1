use Rattle.std.proofs.Common.{subst, sym}
use Rattle.std.specs.List.{All}
use Rattle.std.proofs.lemmas.List.Elements.{All-get_or}
use Rattle.certificate_text.specs.Plain.{plain_step}
use Rattle.certificate_text.specs.Writable.{IsWritableStep}
use Rattle.certificate_text.specs.declared.block.Step.{Step}
use Rattle.certificate_text.proofs.WrittenSums.{steps_writable}
use Rattle.certificate_text.proofs.writing.write_block.Goals as goal

pub write_step-requires : goal.write_step-requires
write_step-requires c =
    let Writes = λ (step : Step). IsWritableStep c.args.document.now.field c.args.document.now.gens (plain_step step) in
    let all : All Writes c.as_slice-step-items.result.now =
    subst (All Writes) (sym c.as_slice-step-items.ensures) (steps_writable c.args.document.now.field c.args.document.now.gens c.args.block.now.steps c.requires.writable.steps) in
    record { writable = subst Writes (sym c.step-item.is) (All-get_or Writes c.as_slice-step-items.result.now c.loop-step.step-index c.step-item.result c.loop-step-test.true all) }
