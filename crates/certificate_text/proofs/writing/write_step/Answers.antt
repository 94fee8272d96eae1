use Rattle.std.proofs.Common.{subst, sym}
use Rattle.std.specs.List.{All}
use Rattle.std.proofs.lemmas.List.Elements.{All-get_or}
use Rattle.symmetric_sums.specs.declared.instance.Instance.{Instance}
use Rattle.certificate_text.specs.Plain.{plain_use}
use Rattle.certificate_text.specs.Writable.{IsWritableUse}
use Rattle.certificate_text.proofs.WrittenSums.{uses_writable}
use Rattle.certificate_text.proofs.writing.write_step.Goals as goal

pub write_use-requires : goal.write_use-requires
write_use-requires c =
    let Writes = λ (item : Instance). IsWritableUse c.args.field c.args.table.now (plain_use item) in
    let all : All Writes c.as_slice-item-items.result.now = subst (All Writes) (sym c.as_slice-item-items.ensures) (uses_writable c.args.field c.args.table.now c.args.step.now.uses c.requires.writable.uses) in
    record { writable = subst Writes (sym c.item-item.is) (All-get_or Writes c.as_slice-item-items.result.now c.loop-item.item-index c.item-item.result c.loop-item-test.true all) }
