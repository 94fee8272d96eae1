use Rattle.std.proofs.Common.{◌≡◌, ◌+◌, ◌-◌, ◌++◌, Ok, arith, drop, length, length-drop}
use Rattle.presentation_text.specs.LineReadings.{all_parts_in}
use Rattle.presentation_text.specs.Readings.{StopsAs, ◌>>=◌}
use Rattle.presentation_text.specs.declared.kinds.DocKind.TheVariants.{PartsOut}
use Rattle.presentation_text.proofs.LineReadingsParts.{behind_none, behind_part, parts_short, parts_whole}
use Rattle.presentation_text.proofs.LineReadingsStops.{part_fails_last, part_stops, stops_in, stops_on}
use Rattle.presentation_text.proofs.line_forms.parts_at.Goals as goal

pub loop-parts-init : goal.loop-parts-init
loop-parts-init c = record { within = c.requires.within; small = omega arith; read = behind_none (all_parts_in c.args.arity 0 (drop c.args.at c.args.tokens.now)) c.new-parts.result c.new-parts.ensures }

pub returns-in_err-part : goal.returns-in_err-part
unfolding all_parts_in
returns-in_err-part c =
    let loop = c.loop-parts in
    part_stops _ (StopsAs c.args.tokens.now (all_parts_in c.args.arity 0 (drop c.args.at c.args.tokens.now))) c.from_residual.result c.in_err-part.field-0.0
    c.from_residual.ensures.0 c.from_residual.ensures.1
    (stops_in c.args.tokens.now (all_parts_in c.args.arity 0 (drop c.args.at c.args.tokens.now)) (all_parts_in c.args.arity loop.sum (drop loop.next c.args.tokens.now) >>= λ others. Ok (loop.parts ++ others))
    c.in_err-part.field-0.0 loop.invariant.read
    (stops_on c.args.tokens.now (all_parts_in c.args.arity loop.sum (drop loop.next c.args.tokens.now)) _ c.in_err-part.field-0.0
    (stops_on c.args.tokens.now _ _ c.in_err-part.field-0.0 c.in_err-part.ensures.read)))

pub loop-parts-preserved : goal.loop-parts-preserved
loop-parts-preserved c =
    let left : length (drop (c.loop-parts.next + 2) c.args.tokens.now) ≡ length c.args.tokens.now - (c.loop-parts.next + 2) = length-drop (c.loop-parts.next + 2) c.args.tokens.now in
    record {
      within = c.in_ok-part.ensures.within;
      small = c.in_ok-part.ensures.small;
      read = behind_part c.args.arity c.loop-parts.sum (drop c.loop-parts.next c.args.tokens.now) (drop (c.loop-parts.next + 2) c.args.tokens.now) _ c.loop-parts.parts c.push.new.self c.in_ok-part.part
          c.loop-parts.invariant.read c.in_ok-part.ensures.read (omega (arith, c.in_ok-part.ensures.within)) c.in_ok-push.ensures.ok;
    }

pub returns-then-sum-arity : goal.returns-then-sum-arity
returns-then-sum-arity c =
    let left : length (drop (c.loop-parts.next + 2) c.args.tokens.now) ≡ length c.args.tokens.now - (c.loop-parts.next + 2) = length-drop (c.loop-parts.next + 2) c.args.tokens.now in
    part_fails_last c.args.tokens.now (c.loop-parts.next + 2) PartsOut _ _ c.fail.result (omega arith)
    (parts_short c.args.arity c.loop-parts.sum (drop c.loop-parts.next c.args.tokens.now) (drop (c.loop-parts.next + 2) c.args.tokens.now) _ c.loop-parts.parts c.in_ok-part.part
    c.loop-parts.invariant.read c.in_ok-part.ensures.read (omega arith) c.if-sum-arity.true) c.fail.ensures

pub returns : goal.returns
returns c =
    let left : length (drop (c.loop-parts.next + 2) c.args.tokens.now) ≡ length c.args.tokens.now - (c.loop-parts.next + 2) = length-drop (c.loop-parts.next + 2) c.args.tokens.now in
    parts_whole c.args.arity c.loop-parts.sum (drop c.loop-parts.next c.args.tokens.now) (drop (c.loop-parts.next + 2) c.args.tokens.now) _ c.loop-parts.parts c.push.new.self c.in_ok-part.part
    c.loop-parts.invariant.read c.in_ok-part.ensures.read (omega arith) c.if-sum-arity.false c.in_ok-push.ensures.ok
