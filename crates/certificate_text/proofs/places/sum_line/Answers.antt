use Rattle.std.proofs.Common.{None, drop, refl}
use Rattle.presentation_text.specs.ElementReadings.{element_in}
use Rattle.presentation_text.specs.Readings.{StopsAs, end_in}
use Rattle.presentation_text.specs.TreeReadings.{demands_of}
use Rattle.certificate_text.specs.BlockReadings.{sum_in}
use Rattle.presentation_text.proofs.LineReadingsStops.{part_stops, stops_on}
use Rattle.certificate_text.proofs.places.sum_line.Goals as goal

pub returns-in_err-element-clause-read : goal.returns-in_err-element-clause-read
unfolding sum_in
returns-in_err-element-clause-read c =
    part_stops _ (StopsAs c.args.tokens.now (sum_in c.args.document.now.field c.args.document.now.gens (drop 1 c.args.tokens.now))) c.from_residual.result c.in_err-element.field-0.0
    c.from_residual.ensures.0 c.from_residual.ensures.1
    (stops_on c.args.tokens.now (element_in c.args.document.now.gens (demands_of 1 None) (drop 1 c.args.tokens.now)) _ _ c.in_err-element.ensures.read)

pub returns-in_err-end_at-clause-read : goal.returns-in_err-end_at-clause-read
unfolding sum_in
returns-in_err-end_at-clause-read c =
    part_stops _ (StopsAs c.args.tokens.now (sum_in c.args.document.now.field c.args.document.now.gens (drop 1 c.args.tokens.now))) c.from_residual-in_err-end_at.result c.in_err-end_at.field-0.0
    c.from_residual-in_err-end_at.ensures.0 c.from_residual-in_err-end_at.ensures.1
    (rw c.in_ok-element.ensures.read.reading_is (stops_on c.args.tokens.now (end_in (drop c.in_ok-element.element.next c.args.tokens.now)) _ _ c.in_err-end_at.ensures))

pub returns-clause-read : goal.returns-clause-read
unfolding sum_in
returns-clause-read c = rw (c.in_ok-element.ensures.read.reading_is, c.in_ok-end_at.ensures, c.in_ok-element.ensures.read.sum_is) refl
