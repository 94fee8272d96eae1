use Rattle.std.proofs.Common.{◌≡◌, Err, Bool, drop, length, ap, sym, ◌∙◌, subst}
use Rattle.presentation_text.specs.declared.kinds.DocKind.TheVariants.{InputCount}
use Rattle.presentation_text.specs.Readings.{GivesBehind}
use Rattle.presentation_text.specs.TreeReadings.{before_in}
use Rattle.presentation_text.proofs.TreeReadingsPlaces.{gives-fault}
use Rattle.presentation_text.proofs.TreeReadingsSteps.{before_in-closed, before_in-mark}
use Rattle.presentation_text.proofs.trees.before_input.Goals as goal

pub returns-then-has_mark : goal.returns-then-has_mark
returns-then-has_mark c =
    let ts = drop c.args.at c.args.tokens.now in
    let closed : before_in c.args.first ts ≡ Err (length ts, InputCount) = ap (λ (first : Bool). before_in first ts) c.if-first.false ∙ before_in-closed ts (sym c.has_mark.ensures.exact ∙ c.if-has_mark.true) in
    gives-fault c.args.tokens.now c.args.at InputCount (before_in c.args.first ts) c.fail.result c.requires.within closed c.fail.ensures

pub returns : goal.returns
returns c =
    let ts = drop c.args.at c.args.tokens.now in
    let marked = ap (λ (first : Bool). before_in first ts) c.if-first.false ∙ before_in-mark ts (sym c.has_mark.ensures.exact ∙ c.if-has_mark.false) in
    subst (λ reading. GivesBehind c.args.tokens.now reading c.mark_at-2.result) (sym marked) c.mark_at-2.ensures
