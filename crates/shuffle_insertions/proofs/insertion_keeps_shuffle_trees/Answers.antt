use Rattle.shuffle_insertions.proofs.Laws.{keeps}
use Rattle.shuffle_insertions.proofs.insertion_keeps_shuffle_trees.Goals as goal

pub returns : goal.returns
returns c = record { law = keeps }
