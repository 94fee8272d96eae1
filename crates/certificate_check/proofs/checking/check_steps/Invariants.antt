use Rattle.std.proofs.Common.{◌≡◌, [], take}
use Rattle.certificate_check.specs.Blocks.{StepsHold}
use Rattle.certificate_check.proofs.checking.check_steps.Given as goal

abbrev pub invariant-loop-step : goal.invariant-loop-step
invariant-loop-step l = record {
  before : l.before ≡ l.step-index;
  hold : StepsHold l.document.field l.document.gens l.document.rels [] (take l.step-index l.steps);
}
