use Rattle.std.proofs.Common.{◌≡◌, ◌+◌, ◌-◌, ◌*◌, ◌≤◌, length, max}
use Rattle.shuffle_passage.specs.Words as spec
use Rattle.shuffle_passage.proofs.words.+endings.Given as goal

abbrev pub decreases-count_endings : goal.decreases-count_endings
decreases-count_endings l = 2 * length l.bounds.now

abbrev pub decreases-sum_endings : goal.decreases-sum_endings
decreases-sum_endings l = 2 * length l.bounds.now + 1

abbrev pub invariant-sum_endings-loop-below : goal.invariant-sum_endings-loop-below
invariant-sum_endings-loop-below l = record {
  sum : l.sum ≡ spec.sum_from (spec.endings l.bounds) l.from (l.below - l.from);
  within : l.below ≤ max l.from l.to;
  past : l.from ≤ l.below;
}
