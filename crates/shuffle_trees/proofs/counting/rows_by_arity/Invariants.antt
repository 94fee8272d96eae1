use Rattle.std.proofs.Common.{◌≡◌, ℕ, ◌<◌, ◌≤◌, length}
use Rattle.std.specs.Prelude.{slice_index}
use Rattle.shuffle_insertions.specs.Counting.{row_count}
use Rattle.shuffle_trees.specs.Capped.{capped}
use Rattle.shuffle_trees.proofs.counting.rows_by_arity.Given as goal

abbrev pub invariant-loop-inputs : goal.invariant-loop-inputs
invariant-loop-inputs l = record {
  long : length l.rows ≡ 7;
  known : (k : ℕ) → 2 ≤ k → k < l.inputs → slice_index l.rows k ≡ capped (row_count (slice_index l.table) k l.leaves);
}
