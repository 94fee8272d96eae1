use Rattle.std.proofs.Common.{◌≡◌, take}
use Rattle.std.specs.List.{All}
use Rattle.operad_answers.specs.Verdicts.{Holds}
use Rattle.operad_run.proofs.checks.first_refusal.Given as goal

abbrev pub invariant-loop-block : goal.invariant-loop-block
invariant-loop-block l = record { before : l.before ≡ l.block-index; hold : All (Holds l.document) (take l.block-index l.blocks) }
