use Rattle.std.proofs.Common.{◌≡◌, true, false, arith, refl}
use Rattle.operad_run.proofs.AnswerSteps.{within_more, all_within, first_greater}
use Rattle.operad_run.proofs.forms.first_wide.Goals as goal

pub returns-then-not-is_ask_within : goal.returns-then-not-is_ask_within
returns-then-not-is_ask_within c =
    first_greater c.args.most c.args.asks.now c.loop-ask.ask-index c.ask-item.result c.loop-ask-test.true c.ask-item.is c.loop-ask.invariant
    (λ within. let both : false ≡ true = c.if-not-is_ask_within.ensures.1 within in absurd cc)

pub loop-ask-preserved : goal.loop-ask-preserved
loop-ask-preserved c = within_more c.args.most c.args.asks.now c.loop-ask.ask-index c.ask-item.result c.loop-ask-test.true c.ask-item.is c.loop-ask.invariant (c.if-not-is_ask_within.ensures.0 refl)

pub returns : goal.returns
returns c = all_within c.args.most c.args.asks.now c.loop-ask.ask-index (omega (arith, c.loop-ask-test.false)) c.loop-ask.invariant
