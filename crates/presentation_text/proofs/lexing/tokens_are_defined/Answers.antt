use Rattle.presentation_text.proofs.TokenLaws.{tokens_defined}
use Rattle.presentation_text.proofs.lexing.tokens_are_defined.Goals as goal

pub returns : goal.returns
returns c = record { law = tokens_defined }
