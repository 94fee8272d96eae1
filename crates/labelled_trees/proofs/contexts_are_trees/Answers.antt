use Rattle.labelled_trees.proofs.Insertions.{contexts}
use Rattle.labelled_trees.proofs.contexts_are_trees.Goals as goal

pub returns : goal.returns
returns c = record { law = contexts }
