use Rattle.counted_runs.proofs.Arities.{arity_is_done}
use Rattle.counted_runs.proofs.arity_is_done.Goals as goal

pub returns : goal.returns
returns c = record { law = arity_is_done }
