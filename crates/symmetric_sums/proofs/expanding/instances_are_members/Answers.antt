use Rattle.symmetric_sums.proofs.Members.{instances_in_ideal}
use Rattle.symmetric_sums.proofs.expanding.instances_are_members.Goals as goal

pub returns : goal.returns
returns c = record { law = instances_in_ideal }
