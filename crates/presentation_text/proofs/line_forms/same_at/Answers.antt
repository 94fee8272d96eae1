use Rattle.std.proofs.Common.{drop, refl, None}
use Rattle.presentation_text.specs.ElementReadings.{element_in}
use Rattle.presentation_text.specs.LineReadings.{same_in}
use Rattle.presentation_text.specs.Readings.{end_in, mark_in}
use Rattle.presentation_text.specs.TreeReadings.{demands_of}
use Rattle.presentation_text.proofs.LineReadingsStops.{ask_stops, stops_on}
use Rattle.presentation_text.proofs.line_forms.same_at.Goals as goal

pub returns-in_err-left : goal.returns-in_err-left
unfolding same_in
returns-in_err-left c =
    ask_stops c.args.field c.args.table.now c.args.tokens.now _ c.from_residual.result c.in_err-left.field-0.0 c.from_residual.ensures.0 c.from_residual.ensures.1
    (stops_on c.args.tokens.now (element_in c.args.table.now (demands_of 1 None) (drop 1 c.args.tokens.now)) _ _ c.in_err-left.ensures.read)

pub returns-in_err-next : goal.returns-in_err-next
unfolding same_in
returns-in_err-next c =
    ask_stops c.args.field c.args.table.now c.args.tokens.now _ c.from_residual-in_err-next.result c.in_err-next.field-0.0 c.from_residual-in_err-next.ensures.0 c.from_residual-in_err-next.ensures.1
    (rw c.in_ok-left.ensures.read.reading_is (stops_on c.args.tokens.now (mark_in 61 (drop c.in_ok-left.left.next c.args.tokens.now)) _ _ c.in_err-next.ensures))

pub returns-in_err-right : goal.returns-in_err-right
unfolding same_in
returns-in_err-right c =
    ask_stops c.args.field c.args.table.now c.args.tokens.now _ c.from_residual-in_err-right.result c.in_err-right.field-0.0 c.from_residual-in_err-right.ensures.0 c.from_residual-in_err-right.ensures.1
    (rw (c.in_ok-left.ensures.read.reading_is, c.in_ok-next.ensures.0, ← c.in_ok-left.ensures.read.arity_is)
    (stops_on c.args.tokens.now (element_in c.args.table.now (demands_of 1 c.in_ok-left.left.arity) (drop c.in_ok-next.next c.args.tokens.now)) _ _ c.in_err-right.ensures.read))

pub returns-in_err-end_at : goal.returns-in_err-end_at
unfolding same_in
returns-in_err-end_at c =
    ask_stops c.args.field c.args.table.now c.args.tokens.now _ c.from_residual-in_err-end_at.result c.in_err-end_at.field-0.0 c.from_residual-in_err-end_at.ensures.0 c.from_residual-in_err-end_at.ensures.1
    (rw (c.in_ok-left.ensures.read.reading_is, c.in_ok-next.ensures.0, ← c.in_ok-left.ensures.read.arity_is, c.in_ok-right.ensures.read.reading_is)
    (stops_on c.args.tokens.now (end_in (drop c.in_ok-right.right.next c.args.tokens.now)) _ _ c.in_err-end_at.ensures))

pub returns : goal.returns
unfolding same_in
returns c = (
  rw (
    c.in_ok-left.ensures.read.reading_is,
    c.in_ok-next.ensures.0,
    ← c.in_ok-left.ensures.read.arity_is,
    c.in_ok-right.ensures.read.reading_is,
    c.in_ok-end_at.ensures,
    c.in_ok-left.ensures.read.sum_is,
    c.in_ok-right.ensures.read.sum_is,
  )
      refl,
  (c.in_ok-left.ensures.fits, c.in_ok-right.ensures.fits),
)
