use Rattle.std.proofs.Common.{◌≡◌, ◌∙◌, ◌+◌, ◌++◌, ◌∷◌, [], Ok, ap, drop, refl, sym, None, Some}
use Rattle.presentation_text.specs.LineReadings.{symmetry_in, symmetry_named}
use Rattle.presentation_text.specs.Readings.{StopsAs, end_in, word_in}
use Rattle.presentation_text.specs.declared.kinds.DocKind.TheVariants.{Syntax}
use Rattle.presentation_text.proofs.LineReadingsStops.{part_fails, part_stops, stops_on}
use Rattle.presentation_text.proofs.line_forms.symmetry_at.Goals as goal

pub returns-in_err-word : goal.returns-in_err-word
unfolding symmetry_in
returns-in_err-word c =
    part_stops _ (StopsAs c.args.tokens.now (symmetry_in c.args.arity (drop c.args.at c.args.tokens.now))) c.from_residual.result c.in_err-word.field-0.0
    c.from_residual.ensures.0 c.from_residual.ensures.1 (stops_on c.args.tokens.now (word_in (drop c.args.at c.args.tokens.now)) _ _ c.in_err-word.ensures)

pub returns-in_default : goal.returns-in_default
unfolding symmetry_in
returns-in_default c =
    let none : symmetry_named c.in_ok-word.word.now ≡ None = sym c.in_default.ensures in
    part_fails c.args.tokens.now c.args.at Syntax _ _ c.fail.result c.in_ok-word.ensures.1 (rw (c.in_ok-word.ensures.0, none) refl) c.fail.ensures

pub returns-in_err-end_at : goal.returns-in_err-end_at
unfolding symmetry_in
returns-in_err-end_at c =
    let some : symmetry_named c.in_ok-word.word.now ≡ Some c.in-Some.kind = sym c.in-Some.ensures in
    part_stops _ (StopsAs c.args.tokens.now (symmetry_in c.args.arity (drop c.args.at c.args.tokens.now))) c.from_residual-in_err-end_at.result c.in_err-end_at.field-0.0
    c.from_residual-in_err-end_at.ensures.0 c.from_residual-in_err-end_at.ensures.1
    (rw (c.in_ok-word.ensures.0, some) (stops_on c.args.tokens.now (end_in (drop (c.args.at + 1) c.args.tokens.now)) _ _ c.in_err-end_at.ensures))

pub returns : goal.returns
unfolding symmetry_in
returns c =
    let some : symmetry_named c.in_ok-word.word.now ≡ Some c.in-Some.kind = sym c.in-Some.ensures in
    rw (c.in_ok-word.ensures.0, some, c.in_ok-end_at.ensures) (ap Ok (sym (c.in_ok-push.ensures.ok ∙ ap (λ parts. parts ++ record { kind = c.in-Some.kind; size = c.args.arity } ∷ []) c.new-parts.ensures)))
