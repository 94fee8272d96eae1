use Rattle.action_characters.proofs.ModularTraces.{traces_commute as the_law}
use Rattle.action_characters.proofs.traces_commute.Goals as goal

pub returns : goal.returns
returns g c = record { law = the_law g.row.M.Denot g.row.N.Denot g.row.I.Denot g.row.J.Denot }
