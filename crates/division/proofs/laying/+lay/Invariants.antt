use Rattle.division.proofs.LaidParts.{AreLaid}
use Rattle.division.proofs.laying.+lay.Given as goal

abbrev pub decreases-lay : goal.decreases-lay
decreases-lay l = l.lead

abbrev pub invariant-loop-at : goal.invariant-loop-at
invariant-loop-at l = AreLaid l.store l.inputs l.hosts l.fn.parts l.parts l.at
