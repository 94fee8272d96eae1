use Rattle.modular_sums.proofs.Laws.{rank_law}
use Rattle.modular_sums.proofs.counted_ranks.Goals as goal

pub returns : goal.returns
returns g c = record { law = rank_law g.row.X.Denot }
