use Rattle.arity_completion.proofs.Carried.{carried_law}
use Rattle.arity_completion.proofs.laws.entries_are_carried.Goals as goal

pub returns : goal.returns
returns c = record { law = carried_law }
