use Rattle.std.proofs.Common.{length}
use Rattle.division.proofs.Rowing.{AreFilledSoFar}
use Rattle.division.proofs.rows.fill_row.Given as goal

abbrev pub invariant-loop-term : goal.invariant-loop-term
invariant-loop-term l = AreFilledSoFar (length l.fn.row) l.row l.placed l.term-index
