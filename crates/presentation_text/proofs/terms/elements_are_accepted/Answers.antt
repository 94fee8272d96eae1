use Rattle.presentation_text.proofs.ElementsAccepted.{elements_accepted}
use Rattle.presentation_text.proofs.TreesAccepted.{all_accepted}
use Rattle.presentation_text.proofs.terms.elements_are_accepted.Goals as goal

pub returns : goal.returns
returns c = record { law = elements_accepted all_accepted }
