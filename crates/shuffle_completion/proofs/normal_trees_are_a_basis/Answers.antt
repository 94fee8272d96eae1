use Rattle.shuffle_completion.proofs.ExistenceLaws.{trees_are_a_basis}
use Rattle.shuffle_completion.proofs.normal_trees_are_a_basis.Goals as goal

pub returns : goal.returns
returns c = record { law = trees_are_a_basis }
