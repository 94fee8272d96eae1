use Rattle.std.proofs.Common.{◌≡◌, Ok, Some, ap, drop, false, refl, sym, true}
use Rattle.symmetric_sums.specs.Terms.{FitsOver}
use Rattle.presentation_text.specs.DraftReadings.{AskFits, contents_of}
use Rattle.presentation_text.specs.declared.document.Ask.{Ask}
use Rattle.presentation_text.specs.LineReadings.{field_line, is_prime}
use Rattle.presentation_text.specs.Readings.{number_in, end_in}
use Rattle.presentation_text.specs.declared.kinds.DocKind.TheVariants.{FieldUnknown}
use Rattle.presentation_text.proofs.LineReadingsField.{prime_is, prime_isnt}
use Rattle.presentation_text.proofs.LineReadingsStops.{draft_fails, draft_stops, stops_on, none_hold}
use Rattle.presentation_text.proofs.line_forms.field_line.Goals as goal

pub returns-in_err-number : goal.returns-in_err-number
unfolding field_line
returns-in_err-number c =
    draft_stops c.args.tokens.now _ c.from_residual.result c.in_err-number.field-0.0 c.from_residual.ensures.0 c.from_residual.ensures.1
    (stops_on c.args.tokens.now (number_in (drop 1 c.args.tokens.now)) _ _ c.in_err-number.ensures)

pub returns-in_default : goal.returns-in_default
unfolding field_line
returns-in_default c =
    let none : is_prime c.in_ok-number.number ≡ false = prime_isnt c.in_ok-number.number c.in_default.ensures.listed in
    draft_fails c.args.tokens.now 1 FieldUnknown _ c.fail.result c.in_ok-number.ensures.1 (rw (c.in_ok-number.ensures.0, none) refl) c.fail.ensures

pub returns-in_err-end_at : goal.returns-in_err-end_at
unfolding field_line
returns-in_err-end_at c =
    let some : is_prime c.in_ok-number.number ≡ true = prime_is c.in_ok-number.number c.in-Some.ensures.listed.0 in
    draft_stops c.args.tokens.now _ c.from_residual-in_err-end_at.result c.in_err-end_at.field-0.0 c.from_residual-in_err-end_at.ensures.0 c.from_residual-in_err-end_at.ensures.1
    (rw (c.in_ok-number.ensures.0, some) (stops_on c.args.tokens.now (end_in (drop 2 c.args.tokens.now)) _ _ c.in_err-end_at.ensures))

pub returns : goal.returns
unfolding field_line
returns c =
    let some : is_prime c.in_ok-number.number ≡ true = prime_is c.in_ok-number.number c.in-Some.ensures.listed.0 in (
      rw (c.in_ok-number.ensures.0, some, c.in_ok-end_at.ensures) (ap (λ p. Ok (record (contents_of c.args.draft) { field = Some p; section = 2 })) (sym c.in-Some.ensures.listed.1)),
      record {
        table = c.requires.sound.table;
        no_sums = λ e. absurd cc;
        relations = none_hold (FitsOver c.in-Some.field c.args.draft.gens) c.args.draft.rels (c.requires.sound.no_sums c.requires.first).0;
        asks = none_hold (λ (ask : Ask). AskFits c.in-Some.field c.args.draft.gens ask.kind) c.args.draft.asks (c.requires.sound.no_sums c.requires.first).1;
        weights = c.requires.sound.weights;
      },
    )
