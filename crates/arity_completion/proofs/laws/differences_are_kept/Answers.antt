use Rattle.arity_completion.proofs.Chains.{differences_law}
use Rattle.arity_completion.proofs.laws.differences_are_kept.Goals as goal

pub returns : goal.returns
returns c = record { law = differences_law }
