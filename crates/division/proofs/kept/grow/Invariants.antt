use Rattle.std.proofs.Common.{◌-◌, ◌+◌, length}
use Rattle.division.specs.KeptTails.{OnlyKept}
use Rattle.division.proofs.kept.grow.Given as goal

abbrev pub invariant-loop-kept : goal.invariant-loop-kept
invariant-loop-kept l = OnlyKept l.fn.kept l.kept

abbrev pub decreases-loop-kept : goal.decreases-loop-kept
decreases-loop-kept l = l.at + 1 - length l.kept
