use Rattle.std.proofs.Common.{◌≡◌, map, string_bytes, refl, subst, sym, true, false}
use Rattle.operad_run.specs.CheckedTexts.{CheckTells}
use Rattle.operad_run.specs.declared.status.Status.TheVariants.{Usage}
use Rattle.operad_run.proofs.CheckRuns.{written_is_run, says_of, unread_is_run}
use Rattle.operad_run.proofs.Runs.{told_since}
use Rattle.operad_run.proofs.member.check_run.Goals as goal

pub returns-then-not-is_member : goal.returns-then-not-is_member
returns-then-not-is_member g c = record {
  run = written_is_run Usage c.tell.result (map string_bytes c.args.words.now) _ _
      (λ w. let both : false ≡ true = c.if-not-is_member.ensures.1 w in absurd cc, (refl, refl), refl) c.tell.ensures.contents;
}

pub returns-in-Err : goal.returns-in-Err
returns-in-Err g c = record { run = unread_is_run c.in-Err.status (map string_bytes c.args.words.now) _ (c.if-not-is_member.ensures.0 refl) c.in-Err.ensures.read }

pub returns-in-Ok-check_text : goal.returns-in-Ok-check_text
returns-in-Ok-check_text g c =
    let came = c.in-Ok.ensures.read.0 in
    let unwritten = c.in-Ok.ensures.read.1 in
    let contents = subst (λ bytes. CheckTells bytes c.in-Ok-check_text.status c.in-Ok-check_text.text.items) c.as_slice.ensures.value c.in-Ok-check_text.ensures.contents in
    let here = subst (CheckTells c.in-Ok.bytes.items c.in-Ok-check_text.status) (sym c.as_slice-in-Ok-check_text.ensures.value) contents in
    record {
      run = written_is_run c.in-Ok-check_text.status c.tell-in-Ok-check_text.result (map string_bytes c.args.words.now) _ _
          (says_of (map string_bytes c.args.words.now) _ c.in-Ok.bytes.items c.in-Ok-check_text.status _ (c.if-not-is_member.ensures.0 refl)
          (record { given = came.given; all = came.all; few = came.few; sound = came.sound }) here)
          (told_since _ _ _ _ _ _ _ _ _ unwritten.0 unwritten.1 c.tell-in-Ok-check_text.ensures.contents);
    }
