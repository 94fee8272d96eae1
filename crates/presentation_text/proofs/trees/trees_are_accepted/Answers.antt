use Rattle.presentation_text.proofs.TreesAccepted.{all_accepted}
use Rattle.presentation_text.proofs.trees.trees_are_accepted.Goals as goal

pub returns : goal.returns
returns c = record { law = all_accepted }
