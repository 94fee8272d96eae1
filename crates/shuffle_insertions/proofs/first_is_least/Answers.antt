use Rattle.shuffle_insertions.proofs.Laws.{first_least}
use Rattle.shuffle_insertions.proofs.first_is_least.Goals as goal

pub returns : goal.returns
returns c = record { law = first_least }
