use Rattle.std.proofs.Common.{◌∙◌, ap, refl, Err}
use Rattle.operad_run.specs.Runs.{SaysUnread}
use Rattle.operad_run.specs.declared.status.Status.TheVariants.{Limit, ReadFault}
use Rattle.operad_run.proofs.Runs.{written_ends}
use Rattle.operad_run.proofs.run.source_bytes.Goals as goal

pub returns-in-Ok : goal.returns-in-Ok
returns-in-Ok g c =
    let whole = c.in-Ok.ensures.whole in
    record { read = (record { given = whole.0; all = whole.1; few = whole.2; sound = c.in-Ok.ensures.kept }, (refl, refl)) }

pub returns-in-Err-Fault : goal.returns-in-Err-Fault
returns-in-Err-Fault g c =
    let rose = c.read_all.ensures.fault (c.in-Err-Fault.is ∙ ap Err c.in-Err-Fault.field-0-is) in
    record { read = written_ends (Unit {0}) (SaysUnread _) ReadFault c.tell.result _ _ (record { write = λ t s. s; memory = λ t s. s }) (rose, refl) c.tell.ensures.contents }

pub returns-in-Err-TooLong : goal.returns-in-Err-TooLong
returns-in-Err-TooLong g c =
    let long = c.read_all.ensures.long (c.in-Err-TooLong.is ∙ ap Err c.in-Err-TooLong.field-0-is) in
    record {
      read = written_ends (Unit {0}) (SaysUnread _) Limit c.tell-in-Err-TooLong.result _ _ (record { write = λ t s. s; memory = λ t s. s })
          (record { bytes = long.1; given = long.3; many = long.2; sound = long.0 }, refl) c.tell-in-Err-TooLong.ensures.contents;
    }
