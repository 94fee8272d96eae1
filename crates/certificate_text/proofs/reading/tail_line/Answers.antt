use Rattle.std.proofs.Common.{◌≡◌, ◌∷◌, ◌∙◌, ap, drop, subst, sym}
use Rattle.presentation_text.specs.Readings.{StopsAs}
use Rattle.presentation_text.specs.Tokens.{tokens}
use Rattle.presentation_text.specs.declared.lexing.Token.TheVariants.{Word}
use Rattle.certificate_text.specs.BlockReadings.{base_of, refused_at, rest_of_tail_line, tail_line}
use Rattle.certificate_text.specs.PlaceReadings.{follow_of}
use Rattle.certificate_text.proofs.BlockReading.{line_fails, line_goes_on, line_refused}
use Rattle.certificate_text.proofs.reading.tail_line.Goals as goal
use Rattle.presentation_text.proofs.DocumentReadingsLines.{begun_by}

pub returns-in-Some : goal.returns-in-Some
returns-in-Some c =
    let base = base_of c.args.document.now in
    let now = follow_of c.args.now in
    let begun : tokens c.args.line.now ≡ Word c.as_str-word.result.now ∷ drop 1 c.as_slice-tokens.result.now =
    begun_by (tokens c.args.line.now) c.as_slice-tokens.result.now c.in-Some-Word.field-0.now c.in-Some-Word.word c.as_str-word.result.now (c.as_slice-tokens.ensures.value ∙ c.in-Ok.ensures.found)
    c.in-Some-Word.ensures.lookup.3.0 c.in-Some-Word.ensures.lookup.1 c.in-Some-Word.field-0-is c.as_str-word.ensures.bytes in
    line_fails _ (tail_line base now c.args.number (tokens c.args.line.now)) c.fail-in-Some.result c.args.number c.in-Some.kind
    (line_refused base now c.args.number (tokens c.args.line.now) (drop 1 c.as_slice-tokens.result.now) c.as_str-word.result.now c.in-Some.kind begun (sym c.in-Some.ensures)) c.fail-in-Some.ensures

pub returns-in-Ok-follow : goal.returns-in-Ok-follow
returns-in-Ok-follow c =
    let base = base_of c.args.document.now in
    let now = follow_of c.args.now in
    let begun : tokens c.args.line.now ≡ Word c.as_str-word.result.now ∷ drop 1 c.as_slice-tokens.result.now =
    begun_by (tokens c.args.line.now) c.as_slice-tokens.result.now c.in-Some-Word.field-0.now c.in-Some-Word.word c.as_str-word.result.now (c.as_slice-tokens.ensures.value ∙ c.in-Ok.ensures.found)
    c.in-Some-Word.ensures.lookup.3.0 c.in-Some-Word.ensures.lookup.1 c.in-Some-Word.field-0-is c.as_str-word.ensures.bytes in
    line_goes_on base now c.args.number (tokens c.args.line.now) (drop 1 c.as_slice-tokens.result.now) c.as_str-word.result.now begun (sym c.in_default-word_fault.ensures)
    ∙ ap (refused_at c.args.number) c.in-Ok-follow.ensures

pub returns-in-Err-At : goal.returns-in-Err-At
returns-in-Err-At c =
    let base = base_of c.args.document.now in
    let now = follow_of c.args.now in
    let begun : tokens c.args.line.now ≡ Word c.as_str-word.result.now ∷ drop 1 c.as_slice-tokens.result.now =
    begun_by (tokens c.args.line.now) c.as_slice-tokens.result.now c.in-Some-Word.field-0.now c.in-Some-Word.word c.as_str-word.result.now (c.as_slice-tokens.ensures.value ∙ c.in-Ok.ensures.found)
    c.in-Some-Word.ensures.lookup.3.0 c.in-Some-Word.ensures.lookup.1 c.in-Some-Word.field-0-is c.as_str-word.ensures.bytes in
    line_fails _ (tail_line base now c.args.number (tokens c.args.line.now)) c.fail-in-Err-At.result c.args.number c.in-Err-At.kind
    (line_goes_on base now c.args.number (tokens c.args.line.now) (drop 1 c.as_slice-tokens.result.now) c.as_str-word.result.now begun (sym c.in_default-word_fault.ensures)
    ∙ ap (refused_at c.args.number)
    (subst (StopsAs c.as_slice-tokens.result.now (rest_of_tail_line base.p base.generators now.0 now.1 c.as_str-word.result.now (drop 1 c.as_slice-tokens.result.now))) c.in-Err-At.field-0-is c.in-Err-At.ensures).0)
    c.fail-in-Err-At.ensures
