use Rattle.presentation_text.proofs.TreesStop.{all_begin}
use Rattle.presentation_text.proofs.trees.refused_trees_begin.Goals as goal

pub returns : goal.returns
returns c = record { law = all_begin }
