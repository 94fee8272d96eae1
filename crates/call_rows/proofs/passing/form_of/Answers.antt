use Rattle.call_rows.proofs.passing.form_of.Goals as goal

pub returns-in_ok-to_shuffle-in-Some : goal.returns-in_ok-to_shuffle-in-Some
returns-in_ok-to_shuffle-in-Some c = record { belongs = (c.in_ok-to_shuffle-in-Some.ensures.shuffle c.in-Some.field-0 c.in-Some.ensures.labelled).fits }
