use Rattle.labelled_trees.proofs.Grafts.{graft_assoc, graft_leaf}
use Rattle.labelled_trees.proofs.grafting_is_associative.Goals as goal

pub returns : goal.returns
returns g c = record { law = (graft_assoc, graft_leaf) }
