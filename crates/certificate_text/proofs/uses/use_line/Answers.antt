use Rattle.std.proofs.Common.{◌+◌, drop, length, refl}
use Rattle.presentation_text.specs.Readings.{StopsAs, mark_in}
use Rattle.certificate_text.specs.BlockReadings.{cited_in, coefficient_in, free_tree_in, inputs_in, use_in}
use Rattle.presentation_text.proofs.LineReadingsStops.{part_stops, stops_on}
use Rattle.certificate_text.proofs.uses.use_line.Goals as goal

pub returns-in_err-negative-clause-read : goal.returns-in_err-negative-clause-read
unfolding use_in
returns-in_err-negative-clause-read c =
    part_stops _ (StopsAs c.args.tokens.now (use_in c.args.field c.args.table.now (drop 1 c.args.tokens.now))) c.from_residual.result c.in_err-negative.field-0.0
    c.from_residual.ensures.0 c.from_residual.ensures.1
    (stops_on c.args.tokens.now (coefficient_in (drop 1 c.args.tokens.now)) _ _ c.in_err-negative.ensures)

pub returns-in_err-begin-clause-read : goal.returns-in_err-begin-clause-read
unfolding use_in
returns-in_err-begin-clause-read c =
    part_stops _ (StopsAs c.args.tokens.now (use_in c.args.field c.args.table.now (drop 1 c.args.tokens.now))) c.from_residual-in_err-begin.result c.in_err-begin.field-0.0
    c.from_residual-in_err-begin.ensures.0 c.from_residual-in_err-begin.ensures.1
    (rw c.in_ok-negative.ensures.0 (stops_on c.args.tokens.now (mark_in 59 (drop c.in_ok-negative.behind c.args.tokens.now)) _ _ c.in_err-begin.ensures))

pub returns-in_err-context-clause-read : goal.returns-in_err-context-clause-read
unfolding use_in
returns-in_err-context-clause-read c =
    part_stops _ (StopsAs c.args.tokens.now (use_in c.args.field c.args.table.now (drop 1 c.args.tokens.now))) c.from_residual-in_err-context.result c.in_err-context.field-0.0
    c.from_residual-in_err-context.ensures.0 c.from_residual-in_err-context.ensures.1
    (rw (c.in_ok-negative.ensures.0, c.in_ok-begin.ensures.0) (stops_on c.args.tokens.now (free_tree_in c.args.table.now (drop c.in_ok-begin.begin c.args.tokens.now)) _ _ c.in_err-context.ensures.read))

pub returns-in_err-third-clause-read : goal.returns-in_err-third-clause-read
unfolding use_in
returns-in_err-third-clause-read c =
    part_stops _ (StopsAs c.args.tokens.now (use_in c.args.field c.args.table.now (drop 1 c.args.tokens.now))) c.from_residual-in_err-third.result c.in_err-third.field-0.0
    c.from_residual-in_err-third.ensures.0 c.from_residual-in_err-third.ensures.1
    (rw (c.in_ok-negative.ensures.0, c.in_ok-begin.ensures.0, c.in_ok-context.ensures.read.0) (stops_on c.args.tokens.now (mark_in 59 (drop c.in_ok-context.end c.args.tokens.now)) _ _ c.in_err-third.ensures))

pub returns-in_err-rule-clause-read : goal.returns-in_err-rule-clause-read
unfolding use_in
returns-in_err-rule-clause-read c =
    part_stops _ (StopsAs c.args.tokens.now (use_in c.args.field c.args.table.now (drop 1 c.args.tokens.now))) c.from_residual-in_err-rule.result c.in_err-rule.field-0.0
    c.from_residual-in_err-rule.ensures.0 c.from_residual-in_err-rule.ensures.1
    (rw (c.in_ok-negative.ensures.0, c.in_ok-begin.ensures.0, c.in_ok-context.ensures.read.0, c.in_ok-third.ensures.0) (stops_on c.args.tokens.now (cited_in (drop c.in_ok-third.third c.args.tokens.now)) _ _ c.in_err-rule.ensures))

pub returns-in_err-inputs-clause-read : goal.returns-in_err-inputs-clause-read
unfolding use_in
returns-in_err-inputs-clause-read c =
    part_stops _ (StopsAs c.args.tokens.now (use_in c.args.field c.args.table.now (drop 1 c.args.tokens.now))) c.from_residual-in_err-inputs.result c.in_err-inputs.field-0.0
    c.from_residual-in_err-inputs.ensures.0 c.from_residual-in_err-inputs.ensures.1
    (rw (c.in_ok-negative.ensures.0, c.in_ok-begin.ensures.0, c.in_ok-context.ensures.read.0, c.in_ok-third.ensures.0, c.in_ok-rule.ensures.0) (stops_on c.args.tokens.now (inputs_in (length (drop (c.in_ok-third.third + 2) c.args.tokens.now)) c.args.table.now (drop (c.in_ok-third.third + 2) c.args.tokens.now)) _ _ c.in_err-inputs.ensures))

pub returns-clause-read : goal.returns-clause-read
unfolding use_in
returns-clause-read c =
    rw (
      c.in_ok-negative.ensures.0,
      c.in_ok-begin.ensures.0,
      c.in_ok-context.ensures.read.0,
      c.in_ok-third.ensures.0,
      c.in_ok-rule.ensures.0,
      c.in_ok-inputs.ensures,
      c.signed_residue.ensures.residue,
    )
    refl
