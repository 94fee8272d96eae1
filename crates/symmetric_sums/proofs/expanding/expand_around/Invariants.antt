use Rattle.std.proofs.Common.{take}
use Rattle.symmetric_sums.proofs.Expansions.{IsExpandedSoFar}
use Rattle.symmetric_sums.proofs.expanding.expand_around.Given as goal

abbrev pub invariant-loop-term : goal.invariant-loop-term
invariant-loop-term l = IsExpandedSoFar l.field l.table l.instance (take l.term-index l.term-items) l.terms l.arity
