use Rattle.shuffle_normal_forms.proofs.Laws.{all_listed}
use Rattle.shuffle_normal_forms.proofs.free_trees_listed.Goals as goal

pub returns : goal.returns
returns c = record { law = all_listed }
