use Rattle.std.proofs.Common.{◌≡◌, ◌≤◌}
use Rattle.shuffle_insertions.specs.Counting as spec
use Rattle.shuffle_sums.proofs.counting.factorial.Given as goal

abbrev pub invariant-loop-factor : goal.invariant-loop-factor
invariant-loop-factor l = record {
  product : l.product ≡ spec.factorial l.factor;
  within : l.factor ≤ l.number;
}
