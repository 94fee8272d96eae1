use Rattle.action_characters.proofs.ModularTraces.{bases_agree as the_law}
use Rattle.action_characters.proofs.bases_agree.Goals as goal

pub returns : goal.returns
returns g c = record { law = the_law g.row.M.Denot g.row.I.Denot }
