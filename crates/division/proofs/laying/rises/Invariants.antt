use Rattle.division.proofs.LaidParts.{RiseBelow}
use Rattle.division.proofs.laying.rises.Given as goal

abbrev pub invariant-loop-at : goal.invariant-loop-at
invariant-loop-at l = RiseBelow l.store l.parts l.at l.last
