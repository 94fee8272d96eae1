use Rattle.std.proofs.Common.{◌-◌, take}
use Rattle.std.specs.List.{zip}
use Rattle.row_sweeps.proofs.TailsThatFall.{IsTailSoFar}
use Rattle.reduction_rows.proofs.sweeps.is_falling_tail.Given as goal

abbrev pub invariant-loop-i : goal.invariant-loop-i
invariant-loop-i l = IsTailSoFar (l.prime - 1) l.fn.at l.last (take l.i (zip l.coefs l.positions))
