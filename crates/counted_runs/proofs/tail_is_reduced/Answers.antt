use Rattle.counted_runs.proofs.Tails.{tail_is_reduced}
use Rattle.counted_runs.proofs.tail_is_reduced.Goals as goal

pub returns : goal.returns
returns c = record { law = tail_is_reduced }
