use Rattle.std.proofs.Common.{length}
use Rattle.normal_listing.proofs.ReadInputs.{IsReading}
use Rattle.normal_listing.proofs.reading.+read_front.Given as goal

abbrev pub decreases-read_front : goal.decreases-read_front
decreases-read_front l = length l.word

abbrev pub invariant-loop-at : goal.invariant-loop-at
invariant-loop-at l = IsReading l.table l.fn.word l.left l.generator l._at l.arity l.inputs
