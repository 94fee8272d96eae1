use Rattle.std.proofs.Common.{drop, ap, sym, ◌∙◌, ◌++◌, ◌∷◌, []}
use Rattle.symmetric_sums.specs.Terms.{terms_of}
use Rattle.presentation_text.specs.Elements as elements
use Rattle.presentation_text.specs.ElementReadings as spec
use Rattle.presentation_text.specs.TreeReadings.{demands_of}
use Rattle.presentation_text.proofs.TreeReadingsPlaces.{stops-on}
use Rattle.presentation_text.proofs.ElementReadingsRead.{given_on}
use Rattle.presentation_text.proofs.ElementReadingsWhole.{nothing-read, element-stops, element-reads}
use Rattle.presentation_text.proofs.terms.element_at.Goals as goal

pub returns-then-is_nothing-clause-read : goal.returns-then-is_nothing-clause-read
returns-then-is_nothing-clause-read c =
    nothing-read c.args.field c.args.table.now c.args.least c.args.arity c.args.tokens.now c.args.at (sym c.is_nothing.ensures ∙ c.if-is_nothing.true) c.new.result c.new.ensures.empty

pub returns-in_err-first-clause-read : goal.returns-in_err-first-clause-read
returns-in_err-first-clause-read c =
    let tokens = c.args.tokens.now in
    let from = c.minus_at-negative in
    let demands = demands_of c.args.least c.args.arity in
    let term = spec.term_in c.args.table.now demands from.result.0 (drop from.result.1 tokens) in
    let element = spec.element_in c.args.table.now demands (drop c.args.at tokens) in
    given_on (spec.GivesElement c.args.field tokens element) c.from_residual.result c.in_err-first.field-0.0 c.from_residual.ensures.0 c.from_residual.ensures.1
    (stops-on tokens term element
    (element-stops c.args.field c.args.table.now c.args.least c.args.arity tokens c.args.at from.result.0 from.result.1 (sym c.is_nothing.ensures ∙ c.if-is_nothing.false)
    from.ensures.minus from.ensures.behind)
    c.in_err-first.field-0.0 c.in_err-first.ensures.read)

pub returns-clause-read : goal.returns-clause-read
returns-clause-read c =
    let from = c.minus_at-negative in
    let first = c.in_ok-first.first in
    element-reads c.args.field c.args.table.now c.args.least c.args.arity c.args.tokens.now c.args.at from.result.0 from.result.1 (sym c.is_nothing.ensures ∙ c.if-is_nothing.false)
    from.ensures.minus from.ensures.behind first c.in_ok-first.ensures.read c.add.new.sum
    (c.in_ok-add.ensures.says ∙ ap (λ sum. terms_of sum ++ elements.written_sum c.args.field (spec.written first ∷ [])) c.new-sum.ensures.empty)
    c.further_at.result c.further_at.ensures.read
