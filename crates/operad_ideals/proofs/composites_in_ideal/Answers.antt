use Rattle.operad_ideals.proofs.PlacedIdeals.{placed_in_ideal}
use Rattle.operad_ideals.proofs.composites_in_ideal.Goals as goal

pub returns : goal.returns
returns c = record { law = placed_in_ideal }
