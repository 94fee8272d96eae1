use Rattle.modular_sums.proofs.OneSum.{falling_law}
use Rattle.modular_sums.proofs.falling_sums.Goals as goal

pub returns : goal.returns
returns g c = record { law = falling_law _ }
