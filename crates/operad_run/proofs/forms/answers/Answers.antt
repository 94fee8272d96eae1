use Rattle.std.proofs.Common.{◌≡◌, List, ◌<◌, ap, arith, get_or, length, subst}
use Rattle.presentation_text.specs.declared.document.Ask.{Ask}
use Rattle.operad_run.proofs.AnswerSteps.{none_answered, one_more, all_answered}
use Rattle.operad_run.proofs.forms.answers.Goals as goal

pub loop-ask-init : goal.loop-ask-init
loop-ask-init c = none_answered c.args.document.now.field c.args.document.now.gens c.new-out.result.items c.new-out.ensures.items

pub loop-ask-preserved : goal.loop-ask-preserved
loop-ask-preserved c =
    let d = c.args.document.now in
    let asks = c.as_slice-ask-items.ensures in
    one_more d.field d.gens d.asks c.loop-ask.ask-index c.ask-item.result c.loop-ask.out.items c.write_ask_answer.new.out.items
    (subst (λ xs. c.loop-ask.ask-index < length xs) asks c.loop-ask-test.true)
    (subst (λ xs. c.ask-item.result ≡ get_or xs c.loop-ask.ask-index c.ask-item.result) asks c.ask-item.is) c.loop-ask.invariant c.in_ok-write_ask_answer.ensures

pub returns : goal.returns
returns c =
    let d = c.args.document.now in
    all_answered d.field d.gens d.asks c.loop-ask.ask-index c.loop-ask.out.items (omega (arith, c.loop-ask-test.false, ap (λ (xs : List Ask). length xs) c.as_slice-ask-items.ensures)) c.loop-ask.invariant
