use Rattle.shuffle_insertions.proofs.Laws.{labelled}
use Rattle.shuffle_insertions.proofs.shuffle_trees_are_labelled.Goals as goal

pub returns : goal.returns
returns c = record { law = labelled }
