use Rattle.std.proofs.Common.{◌-◌, ◌+◌, length}
use Rattle.division.proofs.KeptLists.{IsExtending}
use Rattle.division.proofs.extending.extend_dividers.Given as goal

abbrev pub invariant-loop-id : goal.invariant-loop-id
invariant-loop-id l = IsExtending l.store l.reducers l.fn.found l.found

abbrev pub decreases-loop-id : goal.decreases-loop-id
decreases-loop-id l = l.id + 1 - length l.found
