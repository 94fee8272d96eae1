use Rattle.shuffle_transfer.proofs.RelabelledIdeals.{ideal_is_relabelled as the_law}
use Rattle.shuffle_transfer.proofs.ideal_is_relabelled.Goals as goal

pub returns : goal.returns
returns c = record { law = the_law }
