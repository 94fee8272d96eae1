use Rattle.std.proofs.Common.{take}
use Rattle.std.specs.List.{All}
use Rattle.certificate_text.specs.Tails.{IsCheckableStep}
use Rattle.call_rows.proofs.checking.are_checkable.Given as goal

abbrev pub invariant-loop-step : goal.invariant-loop-step
invariant-loop-step l = All (IsCheckableStep l.document.field l.document.gens) (take l.step-index l.steps)
