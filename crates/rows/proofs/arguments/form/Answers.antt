use Rattle.rows.proofs.arguments.form.Goals as goal

pub returns-in_ok-form-in-Some : goal.returns-in_ok-form-in-Some
returns-in_ok-form-in-Some c = record { shuffle = (c.in-Some.field-0, c.in_ok-form-in-Some.ensures.shuffle c.in-Some.field-0 c.in-Some.ensures.labelled) }
