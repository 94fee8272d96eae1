use Rattle.presentation_text.proofs.AcceptedDocuments.{documents_accepted}
use Rattle.presentation_text.proofs.ElementsAccepted.{elements_accepted}
use Rattle.presentation_text.proofs.TreesAccepted.{all_accepted}
use Rattle.presentation_text.proofs.presentations.documents_are_accepted.Goals as goal

pub returns : goal.returns
returns c = record { law = documents_accepted (elements_accepted all_accepted) }
