use Rattle.std.proofs.Common.{◌≡◌, ◌∙◌, suc, ◌+◌, ◌-◌, ◌*◌, ◌<◌, ◌^◌, ap, sym, arith}
use mathlib.Core.Path.{ap₂}
use Rattle.std.specs.Prelude.{slice_index}
use Rattle.labelled_trees.specs.RangeSums.{range_sum}
use Rattle.shuffle_insertions.specs.Counting.{binomial, row_count}
use Rattle.shuffle_trees.specs.Capped.{capped}
use Rattle.shuffle_trees.proofs.CappedCounts.{add_rows}
use Rattle.shuffle_trees.proofs.counting.+count_rows.Goals as goal

pub loop-more-preserved : goal.loop-more-preserved
loop-more-preserved t c =
    let table = c.args.table.now in
    let others = c.args.leaves - 1 in
    let i = c.loop-more.more in
    let step : suc i ≡ i + 1 = omega arith in
    let small : slice_index table (i + 1) < 2 ^ 64 = omega (arith, c.type_inv.table (i + 1)) in
    add_rows c.loop-more.sum c.ways.result (slice_index table (i + 1)) c.count_rows-rest.result c.saturating_mul.result c.saturating_mul-in-loop-more.result c.saturating_add-sum.result
    (range_sum i (λ j. binomial others j * (slice_index table (suc j) * row_count (slice_index table) (c.args.inputs - 1) (others - j)))) (binomial others i)
    (row_count (slice_index table) (c.args.inputs - 1) (others - i)) c.loop-more.invariant c.ways.ensures small c.count_rows-rest.ensures c.saturating_mul.ensures c.saturating_mul-in-loop-more.ensures c.saturating_add-sum.ensures
    ∙ ap (λ m. capped (range_sum i (λ j. binomial others j * (slice_index table (suc j) * row_count (slice_index table) (c.args.inputs - 1) (others - j)))
    + binomial others i * (slice_index table m * row_count (slice_index table) (c.args.inputs - 1) (others - i)))) (sym step)
    ∙ ap (λ m. capped (range_sum m (λ j. binomial others j * (slice_index table (suc j) * row_count (slice_index table) (c.args.inputs - 1) (others - j))))) step

pub returns : goal.returns
returns t c =
    let table = c.args.table.now in
    let k : suc (c.args.inputs - 1) ≡ c.args.inputs = omega (arith, c.if-inputs-eq0.false) in
    let n : suc (c.args.leaves - 1) ≡ c.args.leaves = omega (arith, c.if-leaves-eq0-2.false) in
    let end : c.loop-more.more ≡ suc (c.args.leaves - 1) = omega (arith, n, c.loop-more-test.false, c.loop-more.auto.more-end) in
    c.loop-more.invariant
    ∙ ap (λ m. capped (range_sum m (λ j. binomial (c.args.leaves - 1) j * (slice_index table (suc j) * row_count (slice_index table) (c.args.inputs - 1) ((c.args.leaves - 1) - j))))) end
    ∙ ap₂ (λ i m. capped (row_count (slice_index table) i m)) k n
