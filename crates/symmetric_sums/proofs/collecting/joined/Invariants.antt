use Rattle.std.proofs.Common.{vec_len}
use Rattle.symmetric_sums.proofs.Joining.{IsOnTheWay}
use Rattle.symmetric_sums.proofs.collecting.joined.Given as goal

abbrev pub invariant-loop-term : goal.invariant-loop-term
invariant-loop-term l = IsOnTheWay l.field l.initial.rest.items l.rest.items l.terms

abbrev pub decreases-loop-term : goal.decreases-loop-term
decreases-loop-term l = vec_len l.rest
