use Rattle.presentation_text.proofs.TermsOnce.{elements-once}
use Rattle.presentation_text.proofs.terms.elements_are_read_once.Goals as goal

pub returns : goal.returns
returns c = record { law = elements-once }
