use Rattle.shuffle_transfer.proofs.NormalForms.{normal_trees_listed as the_law}
use Rattle.shuffle_transfer.proofs.normal_trees_listed.Goals as goal

pub returns : goal.returns
returns c = record { law = the_law }
