use Rattle.division.proofs.LaidParts.{AreLaid}
use Rattle.division.proofs.laying.lay_inputs.Given as goal

abbrev pub invariant-loop-at : goal.invariant-loop-at
invariant-loop-at l = AreLaid l.store l.inputs l.hosts l.fn.parts l.parts l.at
