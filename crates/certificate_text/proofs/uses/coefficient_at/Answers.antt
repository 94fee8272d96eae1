use Rattle.std.proofs.Common.{◌≡◌, ◌∙◌, ◌+◌, ap, arith, drop, false, refl, sym, true, Ok}
use Rattle.presentation_text.specs.ElementReadings.{behind_one}
use Rattle.presentation_text.specs.TreeReadings.{begins_with}
use Rattle.presentation_text.specs.Readings.{StopsAs, number_in}
use Rattle.certificate_text.specs.BlockReadings.{coefficient_in}
use Rattle.presentation_text.proofs.LineReadingsStops.{part_stops, stops_on}
use Rattle.certificate_text.proofs.MarkPlaces.{marked_within}
use Rattle.certificate_text.proofs.uses.coefficient_at.Goals as goal

pub number_at-requires : goal.number_at-requires
number_at-requires c = record { within = (marked_within c.args.tokens.now c.args.at 45 c.requires.within (sym c.has_mark.ensures.exact ∙ c.if-has_mark.true)).1 }

pub returns-in_err-number : goal.returns-in_err-number
unfolding coefficient_in
returns-in_err-number c =
    let marked : begins_with 45 (drop c.args.at c.args.tokens.now) ≡ true = sym c.has_mark.ensures.exact ∙ c.if-has_mark.true in
    let behind : behind_one (drop c.args.at c.args.tokens.now) ≡ drop (c.args.at + 1) c.args.tokens.now = (marked_within c.args.tokens.now c.args.at 45 c.requires.within marked).0 in
    part_stops _ (StopsAs c.args.tokens.now (coefficient_in (drop c.args.at c.args.tokens.now))) c.from_residual.result c.in_err-number.field-0.0
    c.from_residual.ensures.0 c.from_residual.ensures.1
    (rw (marked, behind) (stops_on c.args.tokens.now (number_in (drop (c.args.at + 1) c.args.tokens.now)) _ _ c.in_err-number.ensures))

pub returns-then-has_mark : goal.returns-then-has_mark
unfolding coefficient_in
returns-then-has_mark c =
    let marked : begins_with 45 (drop c.args.at c.args.tokens.now) ≡ true = sym c.has_mark.ensures.exact ∙ c.if-has_mark.true in
    let behind : behind_one (drop c.args.at c.args.tokens.now) ≡ drop (c.args.at + 1) c.args.tokens.now = (marked_within c.args.tokens.now c.args.at 45 c.requires.within marked).0 in
    let two : c.args.at + 1 + 1 ≡ c.args.at + 2 = omega arith in
    (rw (marked, behind, c.in_ok-number.ensures.0) (ap (λ at. Ok ((true, c.in_ok-number.number), drop at c.args.tokens.now)) two), omega (arith, c.in_ok-number.ensures.1))

pub returns-in_err-number-2 : goal.returns-in_err-number-2
unfolding coefficient_in
returns-in_err-number-2 c =
    let unmarked : begins_with 45 (drop c.args.at c.args.tokens.now) ≡ false = sym c.has_mark.ensures.exact ∙ c.if-has_mark.false in
    part_stops _ (StopsAs c.args.tokens.now (coefficient_in (drop c.args.at c.args.tokens.now))) c.from_residual-in_err-number-2.result c.in_err-number-2.field-0.0
    c.from_residual-in_err-number-2.ensures.0 c.from_residual-in_err-number-2.ensures.1
    (rw unmarked (stops_on c.args.tokens.now (number_in (drop c.args.at c.args.tokens.now)) _ _ c.in_err-number-2.ensures))

pub returns : goal.returns
unfolding coefficient_in
returns c =
    let unmarked : begins_with 45 (drop c.args.at c.args.tokens.now) ≡ false = sym c.has_mark.ensures.exact ∙ c.if-has_mark.false in
    (rw (unmarked, c.in_ok-number-2.ensures.0) refl, omega (arith, c.in_ok-number-2.ensures.1))
