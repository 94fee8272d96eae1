use Rattle.presentation_text.proofs.LineLaws.{lines_defined}
use Rattle.presentation_text.proofs.lines.lines_are_defined.Goals as goal

pub returns : goal.returns
returns c = record { law = lines_defined }
