use Rattle.presentation_text.proofs.TokenLaws.{words}
use Rattle.presentation_text.proofs.lexing.words_are_words.Goals as goal

pub returns : goal.returns
returns c = record { law = words }
