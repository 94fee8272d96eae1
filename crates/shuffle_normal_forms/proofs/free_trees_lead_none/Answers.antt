use Rattle.shuffle_normal_forms.proofs.Laws.{lead_none}
use Rattle.shuffle_normal_forms.proofs.free_trees_lead_none.Goals as goal

pub returns : goal.returns
returns c = record { law = lead_none }
