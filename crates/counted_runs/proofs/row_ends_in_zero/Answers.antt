use Rattle.counted_runs.proofs.Rows.{row_ends_in_zero}
use Rattle.counted_runs.proofs.row_ends_in_zero.Goals as goal

pub returns : goal.returns
returns c = record { law = row_ends_in_zero }
