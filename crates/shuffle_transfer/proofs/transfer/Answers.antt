use Rattle.shuffle_transfer.proofs.TransferLaw.{transfer_law}
use Rattle.shuffle_transfer.proofs.transfer.Goals as goal

pub returns : goal.returns
returns c = record { law = transfer_law }
