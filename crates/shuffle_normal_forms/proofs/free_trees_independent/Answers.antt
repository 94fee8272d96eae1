use Rattle.shuffle_normal_forms.proofs.Laws.{independent}
use Rattle.shuffle_normal_forms.proofs.free_trees_independent.Goals as goal

pub returns : goal.returns
returns c = record { law = independent }
