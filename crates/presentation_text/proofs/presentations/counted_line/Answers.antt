use Rattle.std.proofs.Common.{◌≡◌, ◌∷◌, ◌∙◌, ◌==◌, ap, drop, false, refl, subst, sym}
use Rattle.presentation_text.specs.DocumentReadings.{counted_line, refused_at}
use Rattle.presentation_text.specs.DraftReadings.{contents_of}
use Rattle.presentation_text.specs.LineReadings.{rest_of_line, section_of}
use Rattle.presentation_text.specs.Readings.{StopsAs}
use Rattle.presentation_text.specs.Tokens.{tokens}
use Rattle.presentation_text.specs.declared.lexing.Token.TheVariants.{Word}
use Rattle.presentation_text.proofs.DocumentReadingsLines.{begun_by, line_begins_tail, line_fails, line_goes_on, line_refused}
use Rattle.presentation_text.proofs.DocumentReadingsWords.{both_before}
use Rattle.presentation_text.proofs.LineReadingsNumbers.{not_equal}
use Rattle.presentation_text.proofs.presentations.counted_line.Goals as goal

pub returns-in-Some : goal.returns-in-Some
returns-in-Some c =
    let contents = contents_of c.args.draft in
    let begun : tokens c.args.line.now ≡ Word c.as_str-word.result.now ∷ drop 1 c.as_slice-tokens.result.now =
    begun_by (tokens c.args.line.now) c.as_slice-tokens.result.now c.in-Some-Word.field-0.now c.in-Some-Word.word c.as_str-word.result.now (c.as_slice-tokens.ensures.value ∙ c.in-Ok.ensures.found)
    c.in-Some-Word.ensures.lookup.3.0 c.in-Some-Word.ensures.lookup.1 c.in-Some-Word.field-0-is c.as_str-word.ensures.bytes in
    line_fails _ (counted_line contents c.args.number (tokens c.args.line.now)) c.fail-in-Some.result c.args.number c.in-Some.kind
    (line_refused contents c.args.number (tokens c.args.line.now) (drop 1 c.as_slice-tokens.result.now) c.as_str-word.result.now c.in-Some.kind begun (sym c.in-Some.ensures)) c.fail-in-Some.ensures

pub returns-then-section_of-eq7 : goal.returns-then-section_of-eq7
returns-then-section_of-eq7 c =
    let contents = contents_of c.args.draft in
    let begun : tokens c.args.line.now ≡ Word c.as_str-word.result.now ∷ drop 1 c.as_slice-tokens.result.now =
    begun_by (tokens c.args.line.now) c.as_slice-tokens.result.now c.in-Some-Word.field-0.now c.in-Some-Word.word c.as_str-word.result.now (c.as_slice-tokens.ensures.value ∙ c.in-Ok.ensures.found)
    c.in-Some-Word.ensures.lookup.3.0 c.in-Some-Word.ensures.lookup.1 c.in-Some-Word.field-0-is c.as_str-word.ensures.bytes in
    let seventh : section_of c.args.draft.version c.as_str-word.result.now ≡ 7 = sym c.section_of.ensures ∙ c.if-section_of-eq7.true in
    let both = both_before contents c.as_str-word.result.now (sym c.in_default-word_fault.ensures) seventh in (
      line_begins_tail contents c.args.number (tokens c.args.line.now) (drop 1 c.as_slice-tokens.result.now) c.as_str-word.result.now begun (sym c.in_default-word_fault.ensures) seventh,
      refl,
      c.requires.sound,
      record { field = both.0; order = both.1 },
    )

pub returns-in-Ok-rest_of_line : goal.returns-in-Ok-rest_of_line
returns-in-Ok-rest_of_line c =
    let contents = contents_of c.args.draft in
    let begun : tokens c.args.line.now ≡ Word c.as_str-word.result.now ∷ drop 1 c.as_slice-tokens.result.now =
    begun_by (tokens c.args.line.now) c.as_slice-tokens.result.now c.in-Some-Word.field-0.now c.in-Some-Word.word c.as_str-word.result.now (c.as_slice-tokens.ensures.value ∙ c.in-Ok.ensures.found)
    c.in-Some-Word.ensures.lookup.3.0 c.in-Some-Word.ensures.lookup.1 c.in-Some-Word.field-0-is c.as_str-word.ensures.bytes in
    let other : (section_of c.args.draft.version c.as_str-word.result.now == 7) ≡ false = not_equal _ 7 (λ e. c.if-section_of-eq7.false (c.section_of.ensures ∙ e)) in (
      line_goes_on contents c.args.number (tokens c.args.line.now) (drop 1 c.as_slice-tokens.result.now) c.as_str-word.result.now begun (sym c.in_default-word_fault.ensures) other
          ∙ ap (refused_at c.args.number) c.in-Ok-rest_of_line.ensures.0,
      c.in-Ok-rest_of_line.ensures.1,
    )

pub returns-in-Err-At : goal.returns-in-Err-At
returns-in-Err-At c =
    let contents = contents_of c.args.draft in
    let begun : tokens c.args.line.now ≡ Word c.as_str-word.result.now ∷ drop 1 c.as_slice-tokens.result.now =
    begun_by (tokens c.args.line.now) c.as_slice-tokens.result.now c.in-Some-Word.field-0.now c.in-Some-Word.word c.as_str-word.result.now (c.as_slice-tokens.ensures.value ∙ c.in-Ok.ensures.found)
    c.in-Some-Word.ensures.lookup.3.0 c.in-Some-Word.ensures.lookup.1 c.in-Some-Word.field-0-is c.as_str-word.ensures.bytes in
    let other : (section_of c.args.draft.version c.as_str-word.result.now == 7) ≡ false = not_equal _ 7 (λ e. c.if-section_of-eq7.false (c.section_of.ensures ∙ e)) in
    line_fails _ (counted_line contents c.args.number (tokens c.args.line.now)) c.fail-in-Err-At.result c.args.number c.in-Err-At.kind
    (line_goes_on contents c.args.number (tokens c.args.line.now) (drop 1 c.as_slice-tokens.result.now) c.as_str-word.result.now begun (sym c.in_default-word_fault.ensures) other
    ∙ ap (refused_at c.args.number) (subst (StopsAs c.as_slice-tokens.result.now (rest_of_line contents c.args.number c.as_str-word.result.now (drop 1 c.as_slice-tokens.result.now))) c.in-Err-At.field-0-is c.in-Err-At.ensures).0) c.fail-in-Err-At.ensures
