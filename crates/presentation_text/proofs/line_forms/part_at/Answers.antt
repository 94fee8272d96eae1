use Rattle.std.proofs.Common.{◌≡◌, ◌+◌, ◌==◌, ◌||◌, ap, arith, drop, false, nat_lt, refl, sym, true, None, Ok, Some}
use Rattle.presentation_text.specs.LineReadings.{part_in, part_named}
use Rattle.presentation_text.specs.Readings.{StopsAs, number_in, word_in}
use Rattle.presentation_text.specs.declared.kinds.DocKind.TheVariants.{PartsOut, Syntax}
use Rattle.presentation_text.proofs.LineReadingsNumbers.{size_above, size_fits, size_zero}
use Rattle.presentation_text.proofs.LineReadingsStops.{part_fails, part_stops, stops_on}
use Rattle.presentation_text.proofs.line_forms.part_at.Goals as goal
use Rattle.presentation_text.proofs.line_forms.part_at.Goals.{then-size-eq0-via-then-size-eq0, then-size-eq0-via-else-size-eq0+then-size-from}

pub returns-in_err-word-clause-read : goal.returns-in_err-word-clause-read
unfolding part_in
returns-in_err-word-clause-read c =
    part_stops _ (StopsAs c.args.tokens.now (part_in c.args.arity c.args.sum (drop c.args.at c.args.tokens.now))) c.from_residual.result c.in_err-word.field-0.0
    c.from_residual.ensures.0 c.from_residual.ensures.1 (stops_on c.args.tokens.now (word_in (drop c.args.at c.args.tokens.now)) _ _ c.in_err-word.ensures)

pub returns-in_default-clause-read : goal.returns-in_default-clause-read
unfolding part_in
returns-in_default-clause-read c =
    let none : part_named c.in_ok-word.word.now ≡ None = sym c.in_default.ensures in
    part_fails c.args.tokens.now c.args.at Syntax _ _ c.fail.result c.in_ok-word.ensures.1 (rw (c.in_ok-word.ensures.0, none) refl) c.fail.ensures

pub returns-in_err-size-clause-read : goal.returns-in_err-size-clause-read
unfolding part_in
returns-in_err-size-clause-read c =
    let some : part_named c.in_ok-word.word.now ≡ Some c.in-Some.kind = sym c.in-Some.ensures in
    part_stops _ (StopsAs c.args.tokens.now (part_in c.args.arity c.args.sum (drop c.args.at c.args.tokens.now))) c.from_residual-in_err-size.result c.in_err-size.field-0.0
    c.from_residual-in_err-size.ensures.0 c.from_residual-in_err-size.ensures.1
    (rw (c.in_ok-word.ensures.0, some) (stops_on c.args.tokens.now (number_in (drop (c.args.at + 1) c.args.tokens.now)) _ _ c.in_err-size.ensures))

pub returns-then-size-eq0-clause-read : goal.returns-then-size-eq0-clause-read
unfolding part_in
returns-then-size-eq0-clause-read c =
    let some : part_named c.in_ok-word.word.now ≡ Some c.in-Some.kind = sym c.in-Some.ensures in
    let out : (c.in_ok-size.size == 0 || nat_lt c.args.arity (c.args.sum + c.in_ok-size.size)) ≡ true = elim c.then-size-eq0.branch [
      | then-size-eq0-via-then-size-eq0 w ↦ size_zero c.args.arity c.args.sum c.in_ok-size.size w.if-size-eq0.true
      | then-size-eq0-via-else-size-eq0+then-size-from w ↦ size_above c.args.arity c.args.sum c.in_ok-size.size (omega arith)
    ] in
    part_fails c.args.tokens.now (c.args.at + 1) PartsOut _ _ c.fail-then-size-eq0.result c.in_ok-size.ensures.1 (rw (c.in_ok-word.ensures.0, some, c.in_ok-size.ensures.0, out) refl)
    c.fail-then-size-eq0.ensures

pub returns-clause-read : goal.returns-clause-read
unfolding part_in
returns-clause-read c =
    let two : c.args.at + 1 + 1 ≡ c.args.at + 2 = omega arith in
    let some : part_named c.in_ok-word.word.now ≡ Some c.in-Some.kind = sym c.in-Some.ensures in
    let right : (c.in_ok-size.size == 0 || nat_lt c.args.arity (c.args.sum + c.in_ok-size.size)) ≡ false = size_fits c.args.arity c.args.sum c.in_ok-size.size c.if-size-eq0.false (omega arith) in
    rw (c.in_ok-word.ensures.0, some, c.in_ok-size.ensures.0, right)
    (ap (λ at. Ok (record { kind = c.in-Some.kind; size = c.in_ok-size.size }, drop at c.args.tokens.now)) two)
