use Rattle.std.proofs.Common.{◌-◌, ◌+◌, length}
use Rattle.division.specs.Gathered.{SamePlaces}
use Rattle.division.proofs.gathering.widen.Given as goal

abbrev pub invariant-loop-places : goal.invariant-loop-places
invariant-loop-places l = SamePlaces l.fn.places l.places

abbrev pub decreases-loop-places : goal.decreases-loop-places
decreases-loop-places l = l.at + 1 - length l.places
