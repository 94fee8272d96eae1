use Rattle.counted_runs.proofs.Rows.{rows_begin}
use Rattle.counted_runs.proofs.rows_begin.Goals as goal

pub returns : goal.returns
returns c = record { law = rows_begin }
