use Rattle.std.proofs.Common.{drop, refl, None}
use Rattle.presentation_text.specs.ElementReadings.{element_in}
use Rattle.presentation_text.specs.LineReadings.{query_in}
use Rattle.presentation_text.specs.Readings.{end_in}
use Rattle.presentation_text.specs.TreeReadings.{demands_of}
use Rattle.presentation_text.proofs.LineReadingsStops.{ask_stops, stops_on}
use Rattle.presentation_text.proofs.line_forms.query_at.Goals as goal

pub returns-in_err-element : goal.returns-in_err-element
unfolding query_in
returns-in_err-element c =
    ask_stops c.args.field c.args.table.now c.args.tokens.now _ c.from_residual.result c.in_err-element.field-0.0 c.from_residual.ensures.0 c.from_residual.ensures.1
    (stops_on c.args.tokens.now (element_in c.args.table.now (demands_of 1 None) (drop 1 c.args.tokens.now)) _ _ c.in_err-element.ensures.read)

pub returns-in_err-end_at : goal.returns-in_err-end_at
unfolding query_in
returns-in_err-end_at c =
    ask_stops c.args.field c.args.table.now c.args.tokens.now _ c.from_residual-in_err-end_at.result c.in_err-end_at.field-0.0 c.from_residual-in_err-end_at.ensures.0 c.from_residual-in_err-end_at.ensures.1
    (rw c.in_ok-element.ensures.read.reading_is (stops_on c.args.tokens.now (end_in (drop c.in_ok-element.element.next c.args.tokens.now)) _ _ c.in_err-end_at.ensures))

pub returns : goal.returns
unfolding query_in
returns c = (rw (c.in_ok-element.ensures.read.reading_is, c.in_ok-end_at.ensures, c.in_ok-element.ensures.read.sum_is) refl, c.in_ok-element.ensures.fits)
