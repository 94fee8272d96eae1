use Rattle.modular_sums.proofs.Laws.{replacement_law}
use Rattle.modular_sums.proofs.independent_replacements.Goals as goal

pub returns : goal.returns
returns g c = record { law = replacement_law g.row.M.Denot g.row.X.Denot g.row.Y.Denot }
