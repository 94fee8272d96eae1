use Rattle.counted_runs.proofs.Arities.{loop_ends}
use Rattle.counted_runs.proofs.loop_ends.Goals as goal

pub returns : goal.returns
returns c = record { law = loop_ends }
