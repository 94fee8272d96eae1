use Rattle.std.proofs.Common.{◌≡◌, ◌∙◌, ◌+◌, ap, arith, drop, false, min, refl, sym, true, None, Ok, Some}
use Rattle.symmetric_sums.specs.declared.instance.Rule.TheVariants.{Rel, Step}
use Rattle.presentation_text.specs.Readings.{StopsAs, number_in, word_in}
use Rattle.presentation_text.specs.declared.kinds.DocKind.TheVariants.{Syntax}
use Rattle.certificate_text.specs.BlockReadings.{cited_in, cites_step}
use Rattle.certificate_text.specs.UseText.{greatest_cited}
use Rattle.presentation_text.proofs.LineReadingsStops.{part_fails, part_stops, stops_on}
use Rattle.certificate_text.proofs.uses.cited_at.Goals as goal

pub returns-in_err-word : goal.returns-in_err-word
unfolding cited_in
returns-in_err-word c =
    part_stops _ (StopsAs c.args.tokens.now (cited_in (drop c.args.at c.args.tokens.now))) c.from_residual.result c.in_err-word.field-0.0
    c.from_residual.ensures.0 c.from_residual.ensures.1 (stops_on c.args.tokens.now (word_in (drop c.args.at c.args.tokens.now)) _ _ c.in_err-word.ensures)

pub returns-in_default : goal.returns-in_default
unfolding cited_in
returns-in_default c =
    let none : cites_step c.in_ok-word.word.now ≡ None = sym c.in_default.ensures in
    part_fails c.args.tokens.now c.args.at Syntax _ _ c.fail.result c.in_ok-word.ensures.1 (rw (c.in_ok-word.ensures.0, none) refl) c.fail.ensures

pub returns-in_err-number_at : goal.returns-in_err-number_at
unfolding cited_in
returns-in_err-number_at c =
    let some : cites_step c.in_ok-word.word.now ≡ Some c.in-Some.step = sym c.in-Some.ensures in
    part_stops _ (StopsAs c.args.tokens.now (cited_in (drop c.args.at c.args.tokens.now))) c.from_residual-in_err-number_at.result c.in_err-number_at.field-0.0
    c.from_residual-in_err-number_at.ensures.0 c.from_residual-in_err-number_at.ensures.1
    (rw (c.in_ok-word.ensures.0, some) (stops_on c.args.tokens.now (number_in (drop (c.args.at + 1) c.args.tokens.now)) _ _ c.in_err-number_at.ensures))

pub returns-then-step : goal.returns-then-step
unfolding cited_in
returns-then-step c =
    let two : c.args.at + 1 + 1 ≡ c.args.at + 2 = omega arith in
    let some : cites_step c.in_ok-word.word.now ≡ Some true = sym c.in-Some.ensures ∙ ap Some c.if-step.true in (
      rw (c.in_ok-word.ensures.0, some, c.in_ok-number_at.ensures.0, c.cited_number-number.ensures)
          (ap (λ at. Ok (Step (min c.in_ok-number_at.field-0 greatest_cited), drop at c.args.tokens.now)) two),
      omega (arith, c.in_ok-number_at.ensures.1),
    )

pub returns : goal.returns
unfolding cited_in
returns c =
    let two : c.args.at + 1 + 1 ≡ c.args.at + 2 = omega arith in
    let some : cites_step c.in_ok-word.word.now ≡ Some false = sym c.in-Some.ensures ∙ ap Some c.if-step.false in (
      rw (c.in_ok-word.ensures.0, some, c.in_ok-number_at.ensures.0, c.cited_number-number.ensures)
          (ap (λ at. Ok (Rel (min c.in_ok-number_at.field-0 greatest_cited), drop at c.args.tokens.now)) two),
      omega (arith, c.in_ok-number_at.ensures.1),
    )
