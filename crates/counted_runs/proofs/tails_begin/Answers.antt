use Rattle.counted_runs.proofs.Tails.{tails_begin}
use Rattle.counted_runs.proofs.tails_begin.Goals as goal

pub returns : goal.returns
returns c = record { law = tails_begin }
