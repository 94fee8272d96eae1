use Rattle.std.proofs.Common.{Ok, ap, drop, sym}
use Rattle.presentation_text.specs.LineReadings.{generator_in, inputs_in, named_arity_in}
use Rattle.presentation_text.specs.Readings.{StopsAs}
use Rattle.presentation_text.proofs.LineReadingsStops.{part_stops, stops_on}
use Rattle.presentation_text.proofs.line_forms.generator_at.Goals as goal

pub returns-in_err-name : goal.returns-in_err-name
unfolding generator_in
returns-in_err-name c =
    part_stops _ (StopsAs c.args.tokens.now (generator_in c.args.version c.args.table.now (drop 1 c.args.tokens.now))) c.from_residual.result c.in_err-name.field-0.0
    c.from_residual.ensures.0 c.from_residual.ensures.1 (stops_on c.args.tokens.now (named_arity_in c.args.table.now (drop 1 c.args.tokens.now)) _ _ c.in_err-name.ensures)

pub returns-in_err-parts : goal.returns-in_err-parts
unfolding generator_in
returns-in_err-parts c =
    part_stops _ (StopsAs c.args.tokens.now (generator_in c.args.version c.args.table.now (drop 1 c.args.tokens.now))) c.from_residual-in_err-parts.result c.in_err-parts.field-0.0
    c.from_residual-in_err-parts.ensures.0 c.from_residual-in_err-parts.ensures.1
    (rw c.in_ok-name.ensures.0 (stops_on c.args.tokens.now (inputs_in c.args.version c.in_ok-name.arity (drop 3 c.args.tokens.now)) _ _ c.in_err-parts.ensures))

pub returns : goal.returns
unfolding generator_in
returns c = rw (c.in_ok-name.ensures.0, c.in_ok-parts.ensures) (ap (λ name. Ok (record { name = name; arity = c.in_ok-name.arity; parts = c.in_ok-parts.parts })) (sym c.in_ok-new.ensures.bytes))
