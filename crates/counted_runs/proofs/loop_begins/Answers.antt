use Rattle.counted_runs.proofs.Arities.{loop_begins}
use Rattle.counted_runs.proofs.loop_begins.Goals as goal

pub returns : goal.returns
returns c = record { law = loop_begins }
