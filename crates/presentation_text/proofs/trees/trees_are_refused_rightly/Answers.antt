use Rattle.presentation_text.proofs.TreesStop.{all_refused_rightly}
use Rattle.presentation_text.proofs.trees.trees_are_refused_rightly.Goals as goal

pub returns : goal.returns
returns c = record { law = all_refused_rightly }
