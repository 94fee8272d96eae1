use Rattle.operad_ideals.proofs.ArityOne.{only_zero}
use Rattle.operad_ideals.proofs.only_zero_in_arity_one.Goals as goal

pub returns : goal.returns
returns c = record { law = only_zero }
