use Rattle.arity_completion.proofs.Chains.{rows_law}
use Rattle.arity_completion.proofs.laws.reduced_rows_are_kept.Goals as goal

pub returns : goal.returns
returns c = record { law = rows_law }
