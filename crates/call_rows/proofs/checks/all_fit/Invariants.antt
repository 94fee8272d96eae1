use Rattle.std.proofs.Common.{take}
use Rattle.std.specs.List.{All}
use Rattle.symmetric_sums.specs.Terms.{FitsOver}
use Rattle.call_rows.proofs.checks.all_fit.Given as goal

abbrev pub invariant-loop-sum : goal.invariant-loop-sum
invariant-loop-sum l = All (FitsOver l.field l.table) (take l.sum-index l.sums)
