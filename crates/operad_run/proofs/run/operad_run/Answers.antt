use Rattle.std.proofs.Common.{map, string_bytes, refl, subst, sym}
use Rattle.operad_run.specs.FormsAnswers.{FormsTells}
use Rattle.operad_run.specs.declared.status.Status.TheVariants.{Usage}
use Rattle.operad_run.proofs.FormsRuns.{written_is_run, says_of, unread_is_run}
use Rattle.operad_run.proofs.Runs.{told_since}
use Rattle.operad_run.proofs.run.operad_run.Goals as goal

pub returns-in_default : goal.returns-in_default
returns-in_default g c = record { run = written_is_run Usage c.tell.result (map string_bytes c.args.words.now) _ _ (c.in_default.ensures.absent, (refl, refl), refl) c.tell.ensures.contents }

pub returns-in-Err : goal.returns-in-Err
returns-in-Err g c = record { run = unread_is_run c.in-Err.status (map string_bytes c.args.words.now) _ (c.in-Some.most, c.in-Some.ensures.found) c.in-Err.ensures.read }

pub returns-in-Ok-forms_text : goal.returns-in-Ok-forms_text
returns-in-Ok-forms_text g c =
    let came = c.in-Ok.ensures.read.0 in
    let unwritten = c.in-Ok.ensures.read.1 in
    let contents = subst (λ bytes. FormsTells bytes c.in-Some.most c.in-Ok-forms_text.status c.in-Ok-forms_text.text.items) c.as_slice.ensures.value c.in-Ok-forms_text.ensures.contents in
    let here = subst (FormsTells c.in-Ok.bytes.items c.in-Some.most c.in-Ok-forms_text.status) (sym c.as_slice-in-Ok-forms_text.ensures.value) contents in
    record {
      run = written_is_run c.in-Ok-forms_text.status c.tell-in-Ok-forms_text.result (map string_bytes c.args.words.now) _ _
          (says_of (map string_bytes c.args.words.now) _ c.in-Some.most c.in-Ok.bytes.items c.in-Ok-forms_text.status _ c.in-Some.ensures.found
          (record { given = came.given; all = came.all; few = came.few; sound = came.sound }) here)
          (told_since _ _ _ _ _ _ _ _ _ unwritten.0 unwritten.1 c.tell-in-Ok-forms_text.ensures.contents);
    }
