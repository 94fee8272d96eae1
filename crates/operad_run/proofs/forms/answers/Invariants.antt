use Rattle.std.proofs.Common.{take}
use Rattle.operad_run.specs.Answers.{AreAnswered}
use Rattle.operad_answers.specs.OrderedPresentations.{asked_by}
use Rattle.operad_answers.specs.Texts.{queries}
use Rattle.operad_run.proofs.forms.answers.Given as goal

abbrev pub invariant-loop-ask : goal.invariant-loop-ask
invariant-loop-ask l = AreAnswered l.document.field l.document.gens (queries (asked_by (take l.ask-index l.document.asks))) l.out.items
