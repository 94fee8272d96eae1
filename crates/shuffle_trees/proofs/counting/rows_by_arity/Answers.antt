use Rattle.std.proofs.Common.{◌∙◌, arith, length-set}
use Rattle.std.specs.Prelude.{slice_index}
use Rattle.shuffle_insertions.specs.Counting.{row_count}
use Rattle.shuffle_trees.specs.Capped.{capped}
use Rattle.shuffle_trees.proofs.CappedCounts.{written_next}
use Rattle.shuffle_trees.proofs.counting.rows_by_arity.Goals as goal

pub loop-inputs-preserved : goal.loop-inputs-preserved
loop-inputs-preserved c = record {
  long = length-set c.loop-inputs.rows c.loop-inputs.inputs c.count_rows.result ∙ c.loop-inputs.invariant.long;
  known = λ k two le.
      written_next c.loop-inputs.rows c.loop-inputs.inputs c.count_rows.result k (λ j. capped (row_count (slice_index c.args.table.now) j c.args.leaves))
      (omega (arith, c.loop-inputs.invariant.long, c.loop-inputs-test.true)) (λ l. c.loop-inputs.invariant.known k two l) c.count_rows.ensures le;
}
