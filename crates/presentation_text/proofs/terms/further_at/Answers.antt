use Rattle.std.proofs.Common.{◌≡◌, ◌+◌, Some, None, drop, length, sym, ◌∙◌, subst, refl}
use Rattle.presentation_text.specs.ElementReadings as spec
use Rattle.presentation_text.specs.TreeReadings.{demands_of}
use Rattle.presentation_text.proofs.TreeReadingsPlaces.{stops-on}
use Rattle.presentation_text.proofs.ElementReadingsRead.{given_on}
use Rattle.presentation_text.proofs.ElementReadingsSums.{over-fits}
use Rattle.presentation_text.proofs.ElementReadingsFurther.{way-start, way-stops, way-step, way-ends}
use Rattle.presentation_text.proofs.terms.further_at.Goals as goal

pub loop-negative-init : goal.loop-negative-init
loop-negative-init c = record {
  way = way-start c.args.table.now (demands_of c.args.least c.args.begun.arity) c.args.field c.args.tokens.now c.args.begun c.requires.within;
  under_way = c.requires.under_way;
}

pub returns-in_err-term-clause-read : goal.returns-in_err-term-clause-read
returns-in_err-term-clause-read c =
    let tokens = c.args.tokens.now in
    let demands = demands_of c.args.least c.args.begun.arity in
    let next = c.loop-negative.next in
    let sign : spec.sign (drop next tokens) ≡ Some c.in-Some.negative = sym c.sign_at.ensures ∙ c.in-Some.is in
    let term = spec.term_in c.args.table.now demands c.in-Some.negative (drop (next + 1) tokens) in
    let whole = spec.further_in (length (drop c.args.begun.next tokens)) c.args.table.now demands (drop c.args.begun.next tokens) in
    given_on (spec.GivesFurther c.args.field tokens whole c.args.begun) c.from_residual.result c.in_err-term.field-0.0 c.from_residual.ensures.0 c.from_residual.ensures.1
    (stops-on tokens term whole
    (way-stops c.args.table.now demands c.args.field tokens c.args.begun c.loop-negative.sum next c.loop-negative.invariant.way c.in-Some.negative sign)
    c.in_err-term.field-0.0 c.in_err-term.ensures.read)

pub add-requires-clause-over : goal.add-requires-clause-over
add-requires-clause-over c =
    let under_way = c.loop-negative.invariant.under_way in
    subst (λ n. spec.IsSumOver c.args.field c.args.table.now n c.loop-negative.sum) (sym (c.in_ok-term.ensures.arity under_way.n under_way.arity_is)) under_way.over

pub loop-negative-preserved : goal.loop-negative-preserved
loop-negative-preserved c =
    let tokens = c.args.tokens.now in
    let next = c.loop-negative.next in
    let sign : spec.sign (drop next tokens) ≡ Some c.in-Some.negative = sym c.sign_at.ensures ∙ c.in-Some.is in
    let under_way = c.loop-negative.invariant.under_way in
    record {
      way = way-step c.args.table.now (demands_of c.args.least c.args.begun.arity) c.args.field tokens c.args.begun c.loop-negative.sum next c.loop-negative.invariant.way
          c.in-Some.negative sign c.in_ok-term.term c.in_ok-term.ensures.read c.in_ok-term.ensures.further c.add.new.sum c.in_ok-add.ensures.says;
      under_way = record {
        n = under_way.n;
        arity_is = under_way.arity_is;
        over = subst (λ n. spec.IsSumOver c.args.field c.args.table.now n c.add.new.sum) (c.in_ok-term.ensures.arity under_way.n under_way.arity_is) c.in_ok-add.ensures.over;
      };
    }

pub returns-clause-read : goal.returns-clause-read
returns-clause-read c =
    let sign : spec.sign (drop c.loop-negative.next c.args.tokens.now) ≡ None = sym c.sign_at.ensures ∙ c.in_default.is in
    way-ends c.args.table.now (demands_of c.args.least c.args.begun.arity) c.args.field c.args.tokens.now c.args.begun c.loop-negative.sum c.loop-negative.next c.loop-negative.invariant.way
    sign c.args.begun.arity refl

pub returns-clause-fits : goal.returns-clause-fits
returns-clause-fits c =
    let under_way = c.loop-negative.invariant.under_way in
    over-fits c.args.field c.args.table.now under_way.n c.loop-negative.sum under_way.over
