use Rattle.std.proofs.Common.{drop}
use Rattle.presentation_text.specs.ElementReadings as spec
use Rattle.presentation_text.specs.TreeReadings.{whole_tree_in}
use Rattle.presentation_text.proofs.TreeReadingsPlaces.{stops-on}
use Rattle.presentation_text.proofs.ElementReadingsRead.{given_on, term-stops, term-reads, term-labelled, term-arity}
use Rattle.presentation_text.proofs.terms.term_at.Goals as goal

pub returns-in_err-tree-clause-read : goal.returns-in_err-tree-clause-read
returns-in_err-tree-clause-read c =
    let tokens = c.args.tokens.now in
    let from = c.coefficient_at-coefficient in
    let tree = whole_tree_in c.args.table.now c.args.demands (drop from.result.1 tokens) in
    let term = spec.term_in c.args.table.now c.args.demands c.args.negative (drop c.args.at tokens) in
    given_on (spec.GivesTerm tokens term) c.from_residual.result c.in_err-tree.field-0.0 c.from_residual.ensures.0 c.from_residual.ensures.1
    (stops-on tokens tree term
    (term-stops c.args.table.now c.args.demands tokens c.args.negative c.args.at from.result.1 from.result.0 from.ensures.coefficient from.ensures.behind)
    c.in_err-tree.field-0.0 c.in_err-tree.ensures.read)

pub returns-clause-read : goal.returns-clause-read
returns-clause-read c =
    let from = c.coefficient_at-coefficient in
    term-reads c.args.table.now c.args.demands c.args.tokens.now c.args.negative c.args.at from.result.1 from.result.0 from.ensures.coefficient from.ensures.behind c.in_ok-tree.tree c.in_ok-tree.ensures.read

pub returns-clause-labelled : goal.returns-clause-labelled
returns-clause-labelled c =
    term-labelled c.args.table.now c.args.demands c.args.tokens.now c.coefficient_at-coefficient.result.1 c.in_ok-tree.tree c.in_ok-tree.ensures.read c.requires.numbered c.in_ok-tree.ensures.fits

pub returns-clause-arity : goal.returns-clause-arity
returns-clause-arity c = term-arity c.args.table.now c.args.demands c.args.tokens.now c.coefficient_at-coefficient.result.1 c.in_ok-tree.tree c.in_ok-tree.ensures.read
