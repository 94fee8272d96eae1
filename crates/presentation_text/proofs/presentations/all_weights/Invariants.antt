use Rattle.std.proofs.Common.{◌≡◌, map, take}
use Rattle.presentation_text.specs.Presentations.{weight_or_none}
use Rattle.presentation_text.proofs.presentations.all_weights.Given as goal

abbrev pub invariant-loop-weight : goal.invariant-loop-weight
invariant-loop-weight l = l.all ≡ map weight_or_none (take l.weight-index l.weight-items)
