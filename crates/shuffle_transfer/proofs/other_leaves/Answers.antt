use Rattle.shuffle_transfer.proofs.OtherLeaves as vertices
use Rattle.shuffle_transfer.proofs.other_leaves.Goals as goal

pub returns : goal.returns
returns c = record { law = vertices.other_leaves }
