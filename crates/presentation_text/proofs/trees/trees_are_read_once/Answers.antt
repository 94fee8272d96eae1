use Rattle.presentation_text.proofs.TreeTokens.{read_once}
use Rattle.presentation_text.proofs.trees.trees_are_read_once.Goals as goal

pub returns : goal.returns
returns c = record { law = read_once }
