use Rattle.operad_ideals.proofs.Ideals.{ideal_law}
use Rattle.operad_ideals.proofs.ideal_is_closed.Goals as goal

pub returns : goal.returns
returns c = record { law = ideal_law }
