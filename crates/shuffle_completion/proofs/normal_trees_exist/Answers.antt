use Rattle.shuffle_completion.proofs.ExistenceLaws.{trees_exist}
use Rattle.shuffle_completion.proofs.normal_trees_exist.Goals as goal

pub returns : goal.returns
returns c = record { law = trees_exist }
