use Rattle.operad_ideals.proofs.HoleInstances.{ideals_are_one}
use Rattle.operad_ideals.proofs.one_ideal.Goals as goal

pub returns : goal.returns
returns c = record { law = ideals_are_one }
