use Rattle.std.proofs.Common.{take}
use Rattle.division.specs.Dividers.{IsLeastOf}
use Rattle.division.proofs.dividing.least_of_inputs.Given as goal

abbrev pub invariant-loop-input : goal.invariant-loop-input
invariant-loop-input l = IsLeastOf l.found (take l.input-index l.inputs) l.least
