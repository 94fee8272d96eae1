use Rattle.shuffle_completion.proofs.ExistenceLaws.{minimal_exist}
use Rattle.shuffle_completion.proofs.minimal_trees_exist.Goals as goal

pub returns : goal.returns
returns c = record { law = minimal_exist }
