use Rattle.std.proofs.Common.{◌≡◌, suc, ◌-◌, ◌*◌}
use Rattle.std.specs.Prelude.{slice_index}
use Rattle.labelled_trees.specs.RangeSums.{range_sum}
use Rattle.shuffle_insertions.specs.Counting.{binomial, row_count}
use Rattle.shuffle_trees.specs.Capped.{capped}
use Rattle.shuffle_trees.proofs.counting.+count_rows.Given as goal

abbrev pub decreases-count_rows : goal.decreases-count_rows
decreases-count_rows l = l.inputs

abbrev pub invariant-loop-more : goal.invariant-loop-more
invariant-loop-more l = l.sum ≡ capped (range_sum l.more (λ j. binomial l.others j * (slice_index l.table (suc j) * row_count (slice_index l.table) (l.inputs - 1) (l.others - j))))
