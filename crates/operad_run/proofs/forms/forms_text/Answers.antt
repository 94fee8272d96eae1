use Rattle.std.proofs.Common.{◌≡◌, false, true, refl, subst, sym}
use Rattle.std.specs.List.{All}
use Rattle.std.specs.Option.{MatchOption}
use Rattle.presentation_text.specs.Presentations as documents
use Rattle.operad_answers.specs.Limits.{IsAskWithin, IsFirstOfGreaterArity}
use Rattle.operad_run.specs.FormsAnswers.{IsFormsRefusal, by_line, by_tail, by_relation}
use Rattle.operad_run.proofs.AnswerSteps.{none_if}
use Rattle.operad_run.proofs.Decides.{answers_decide}
use Rattle.operad_run.proofs.forms.forms_text.Goals as goal

pub returns-in-Err-At : goal.returns-in-Err-At
returns-in-Err-At c =
    let fault = subst (documents.IsTextRefused c.args.bytes.now) c.in-Err-At.field-0-is c.in-Err-At.ensures.document in
    record { contents = subst (IsFormsRefusal c.args.bytes.now) (sym c.in_ok-fault_text-in-Err-At.ensures) (by_line c.in-Err-At.fail.line c.in-Err-At.fail.kind fault) }

pub returns-in-Some : goal.returns-in-Some
returns-in-Some c = record { contents = subst (IsFormsRefusal c.args.bytes.now) (sym c.in_ok-fault_text.ensures) (by_tail c.in-Ok.document c.in-Some.tail c.in-Ok.ensures.document c.in-Some.is) }

pub returns-then-not-has_no_relations : goal.returns-then-not-has_no_relations
returns-then-not-has_no_relations c = record {
  contents =
      subst (IsFormsRefusal c.args.bytes.now) (sym c.in_ok-fault_text-2.ensures)
      (by_relation c.in-Ok.document c.in-Ok.ensures.document (none_if c.in-Ok.document.tail c.in_default.not-Some) (λ none. let both : false ≡ true = c.if-not-has_no_relations.ensures.1 none in absurd cc));
}

pub returns-in-Some-first_wide : goal.returns-in-Some-first_wide
returns-in-Some-first_wide c =
    let d = c.in-Ok.document in
    let wide = subst (λ found. MatchOption found (All (λ ask. IsAskWithin c.args.most ask.kind) c.as_slice.result.now) (IsFirstOfGreaterArity c.args.most c.as_slice.result.now)) c.in-Some-first_wide.is c.first_wide.ensures in
    record {
      contents = record {
        document = d;
        free = record { read = c.in-Ok.ensures.document; no_tail = none_if d.tail c.in_default.not-Some; no_relations = c.if-not-has_no_relations.ensures.0 refl };
        number = c.in-Some-first_wide.line;
        wide = subst (λ asks. IsFirstOfGreaterArity c.args.most asks c.in-Some-first_wide.line) c.as_slice.ensures wide;
        text_is = c.in_ok-wide_text-in-Some-first_wide.ensures;
      };
    }

pub returns : goal.returns
returns c =
    let d = c.in-Ok.document in
    let formed = c.in-Ok.ensures.formed in
    let within = subst (λ found. MatchOption found (All (λ ask. IsAskWithin c.args.most ask.kind) c.as_slice.result.now) (IsFirstOfGreaterArity c.args.most c.as_slice.result.now)) c.in-None.is c.first_wide.ensures in
    record {
      contents = record {
        document = d;
        free = record { read = c.in-Ok.ensures.document; no_tail = none_if d.tail c.in_default.not-Some; no_relations = c.if-not-has_no_relations.ensures.0 refl };
        within = subst (All (λ ask. IsAskWithin c.args.most ask.kind)) c.as_slice.ensures within;
        answered = c.in_ok-answers-in-None.ensures;
        decide = answers_decide d.field d.gens formed.field formed.table formed.words;
      };
    }
