use Rattle.modular_sums.proofs.Laws.{sum_law}
use Rattle.modular_sums.proofs.sum_laws.Goals as goal

pub returns : goal.returns
returns g c = record { law = sum_law g.row.M.Denot }
