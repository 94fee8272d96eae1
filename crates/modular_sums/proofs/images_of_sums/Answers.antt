use Rattle.modular_sums.proofs.Laws.{image_law}
use Rattle.modular_sums.proofs.images_of_sums.Goals as goal

pub returns : goal.returns
returns g c = record { law = image_law g.row.M.Denot g.row.N.Denot g.row.I.Denot g.row.J.Denot }
