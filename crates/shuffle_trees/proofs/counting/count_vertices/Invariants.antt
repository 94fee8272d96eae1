use Rattle.std.proofs.Common.{◌≡◌}
use Rattle.std.specs.Prelude.{slice_index}
use Rattle.labelled_trees.specs.RangeSums.{range_sum}
use Rattle.shuffle_insertions.specs.Counting.{row_count}
use Rattle.shuffle_trees.specs.LabelLists.{arity_in}
use Rattle.shuffle_trees.specs.Capped.{capped}
use Rattle.shuffle_trees.proofs.counting.count_vertices.Given as goal

abbrev pub invariant-loop-label : goal.invariant-loop-label
invariant-loop-label l = l.sum ≡ capped (range_sum l.label (λ g. row_count (slice_index l.fn.table) (arity_in l.fn.labels g) l.fn.leaves))
