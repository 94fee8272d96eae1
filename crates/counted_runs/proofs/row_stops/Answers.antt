use Rattle.counted_runs.proofs.Rows.{row_stops}
use Rattle.counted_runs.proofs.row_stops.Goals as goal

pub returns : goal.returns
returns c = record { law = row_stops }
