use Rattle.std.proofs.Common.{◌≡◌, ◌∙◌, suc, ◌+◌, ap, arith}
use Rattle.std.specs.Prelude.{slice_index}
use Rattle.labelled_trees.specs.RangeSums.{range_sum}
use Rattle.shuffle_insertions.specs.Counting.{row_count}
use Rattle.shuffle_trees.specs.LabelLists.{arity_in}
use Rattle.shuffle_trees.specs.Capped.{capped}
use Rattle.shuffle_trees.proofs.CappedCounts.{add_next}
use Rattle.shuffle_trees.proofs.counting.count_vertices.Goals as goal

pub loop-label-preserved : goal.loop-label-preserved
loop-label-preserved c =
    let labels = c.args.labels.now in
    let i = c.loop-label.label in
    let step : suc i ≡ i + 1 = omega arith in
    let rows : slice_index c.rows_by_arity-rows.result c.arity.result ≡ capped (row_count (slice_index c.args.table.now) (arity_in labels i) c.args.leaves) =
    c.rows_by_arity-rows.ensures c.arity.result c.arity.ensures.wide.0 c.arity.ensures.wide.1 ∙ ap (λ k. capped (row_count (slice_index c.args.table.now) k c.args.leaves)) c.arity.ensures.arity in
    add_next c.loop-label.sum (slice_index c.rows_by_arity-rows.result c.arity.result) c.saturating_add-sum.result
    (range_sum i (λ g. row_count (slice_index c.args.table.now) (arity_in labels g) c.args.leaves)) (row_count (slice_index c.args.table.now) (arity_in labels i) c.args.leaves)
    c.loop-label.invariant rows c.saturating_add-sum.ensures
    ∙ ap (λ m. capped (range_sum m (λ g. row_count (slice_index c.args.table.now) (arity_in labels g) c.args.leaves))) step
