use Rattle.action_characters.proofs.ModularTraces.{forms_are_unique as the_law}
use Rattle.action_characters.proofs.forms_on_independent_lists.Goals as goal

pub returns : goal.returns
returns g c = record { law = the_law g.row.M.Denot g.row.I.Denot }
