use Rattle.std.proofs.Common.{drop}
use Rattle.common_multiples.proofs.LeafCounts.{OverLeft}
use Rattle.common_multiples.proofs.overlays.+leaves_over.Given as goal

abbrev pub decreases-leaves_over : goal.decreases-leaves_over
decreases-leaves_over l = goal.size-leaves_over l

abbrev pub invariant-loop-at : goal.invariant-loop-at
invariant-loop-at l = OverLeft l.input-items l.parts l.count (drop l.at l.input-items) (drop l.at l.parts)
