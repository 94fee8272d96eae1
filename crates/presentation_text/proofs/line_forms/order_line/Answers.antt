use Rattle.std.proofs.Common.{◌≡◌, drop, refl, sym, None, Some}
use Rattle.presentation_text.specs.LineReadings.{order_line, order_named}
use Rattle.presentation_text.specs.Readings.{word_in, end_in}
use Rattle.presentation_text.specs.declared.kinds.DocKind.TheVariants.{OrderUnknown}
use Rattle.presentation_text.proofs.LineReadingsStops.{draft_fails, draft_stops, stops_on}
use Rattle.presentation_text.proofs.line_forms.order_line.Goals as goal

pub returns-in_err-name : goal.returns-in_err-name
unfolding order_line
returns-in_err-name c =
    draft_stops c.args.tokens.now _ c.from_residual.result c.in_err-name.field-0.0 c.from_residual.ensures.0 c.from_residual.ensures.1
    (stops_on c.args.tokens.now (word_in (drop 1 c.args.tokens.now)) _ _ c.in_err-name.ensures)

pub returns-in_default : goal.returns-in_default
unfolding order_line
returns-in_default c =
    let none : order_named c.args.draft.version c.in_ok-name.name.now ≡ None = sym c.in_default.ensures in
    draft_fails c.args.tokens.now 1 OrderUnknown _ c.fail.result c.in_ok-name.ensures.1 (rw (c.in_ok-name.ensures.0, none) refl) c.fail.ensures

pub returns-in_err-end_at : goal.returns-in_err-end_at
unfolding order_line
returns-in_err-end_at c =
    let some : order_named c.args.draft.version c.in_ok-name.name.now ≡ Some c.in-Some.order = sym c.in-Some.ensures in
    draft_stops c.args.tokens.now _ c.from_residual-in_err-end_at.result c.in_err-end_at.field-0.0 c.from_residual-in_err-end_at.ensures.0 c.from_residual-in_err-end_at.ensures.1
    (rw (c.in_ok-name.ensures.0, some) (stops_on c.args.tokens.now (end_in (drop 2 c.args.tokens.now)) _ _ c.in_err-end_at.ensures))

pub returns : goal.returns
unfolding order_line
returns c =
    let some : order_named c.args.draft.version c.in_ok-name.name.now ≡ Some c.in-Some.order = sym c.in-Some.ensures in (
      rw (c.in_ok-name.ensures.0, some, c.in_ok-end_at.ensures) refl,
      record {
        table = c.requires.sound.table;
        no_sums = c.requires.sound.no_sums;
        relations = c.requires.sound.relations;
        asks = c.requires.sound.asks;
        weights = c.requires.sound.weights;
      },
    )
