use Rattle.labelled_trees.proofs.Permutations.{permutations}
use Rattle.labelled_trees.proofs.leaves_are_permutations.Goals as goal

pub returns : goal.returns
returns c = record { law = permutations }
