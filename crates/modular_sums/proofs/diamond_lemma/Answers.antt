use Rattle.modular_sums.proofs.Laws.{diamond_law}
use Rattle.modular_sums.proofs.diamond_lemma.Goals as goal

pub returns : goal.returns
returns g c = record { law = diamond_law g.row.M.Denot g.row.I.Denot }
