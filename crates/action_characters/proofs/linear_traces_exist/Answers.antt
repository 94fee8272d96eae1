use Rattle.action_characters.proofs.ModularTraces.{traces_exist as the_law}
use Rattle.action_characters.proofs.linear_traces_exist.Goals as goal

pub returns : goal.returns
returns g c = record { law = the_law g.row.M.Denot g.row.I.Denot }
