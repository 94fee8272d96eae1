use Rattle.arity_completion.proofs.Wholes.{wholes_law}
use Rattle.arity_completion.proofs.laws.whole_starts.Goals as goal

pub returns : goal.returns
returns c = record { law = wholes_law }
