use Rattle.std.proofs.Common.{take}
use Rattle.std.specs.List.{All}
use Rattle.operad_answers.specs.Limits.{IsAskWithin}
use Rattle.operad_run.proofs.forms.first_wide.Given as goal

abbrev pub invariant-loop-ask : goal.invariant-loop-ask
invariant-loop-ask l = All (λ ask. IsAskWithin l.most ask.kind) (take l.ask-index l.asks)
