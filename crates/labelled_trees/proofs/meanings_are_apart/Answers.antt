use Rattle.labelled_trees.proofs.ProgramTrees.{one_to_one}
use Rattle.labelled_trees.proofs.meanings_are_apart.Goals as goal

pub returns : goal.returns
returns c = record { law = one_to_one }
