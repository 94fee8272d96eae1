use Rattle.counted_runs.proofs.Tails.{tail_stops}
use Rattle.counted_runs.proofs.tail_stops.Goals as goal

pub returns : goal.returns
returns c = record { law = tail_stops }
