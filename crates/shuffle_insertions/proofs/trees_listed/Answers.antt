use Rattle.shuffle_insertions.proofs.Laws.{listed}
use Rattle.shuffle_insertions.proofs.trees_listed.Goals as goal

pub returns : goal.returns
returns c = record { law = listed }
