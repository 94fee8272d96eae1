use Rattle.shuffle_passage.proofs.Transfer.{transfer_of_answers}
use Rattle.shuffle_passage.proofs.transferring.transfer_of_answers.Goals as goal

pub returns : goal.returns
returns c = record { law = transfer_of_answers }
