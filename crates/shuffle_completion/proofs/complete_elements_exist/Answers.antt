use Rattle.shuffle_completion.proofs.ExistenceLaws.{elements_exist}
use Rattle.shuffle_completion.proofs.complete_elements_exist.Goals as goal

pub returns : goal.returns
returns c = record { law = elements_exist }
