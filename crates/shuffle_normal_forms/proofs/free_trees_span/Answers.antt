use Rattle.shuffle_normal_forms.proofs.Laws.{spanning}
use Rattle.shuffle_normal_forms.proofs.free_trees_span.Goals as goal

pub returns : goal.returns
returns c = record { law = spanning }
