use Rattle.std.proofs.Common.{drop, sym, ◌∙◌, subst}
use Rattle.presentation_text.specs.declared.kinds.DocKind.TheVariants.{InputCount}
use Rattle.presentation_text.specs.Readings.{GivesBehind}
use Rattle.presentation_text.specs.TreeReadings.{close_in}
use Rattle.presentation_text.proofs.TreeReadingsPlaces.{gives-fault}
use Rattle.presentation_text.proofs.TreeReadingsSteps.{close_in-more, close_in-mark}
use Rattle.presentation_text.proofs.trees.behind_inputs.Goals as goal

pub returns-then-has_mark : goal.returns-then-has_mark
returns-then-has_mark c =
    let ts = drop c.args.at c.args.tokens.now in
    gives-fault c.args.tokens.now c.args.at InputCount (close_in ts) c.fail.result c.requires.within (close_in-more ts (sym c.has_mark.ensures.exact ∙ c.if-has_mark.true)) c.fail.ensures

pub returns : goal.returns
returns c =
    let ts = drop c.args.at c.args.tokens.now in
    subst (λ reading. GivesBehind c.args.tokens.now reading c.mark_at.result) (sym (close_in-mark ts (sym c.has_mark.ensures.exact ∙ c.if-has_mark.false))) c.mark_at.ensures
