use Rattle.presentation_text.proofs.ElementsAccepted.{elements_accepted}
use Rattle.presentation_text.proofs.ContentsLines.{documents_well}
use Rattle.presentation_text.proofs.TreesAccepted.{all_accepted}
use Rattle.presentation_text.proofs.presentations.accepted_texts_are_well_formed.Goals as goal

pub returns : goal.returns
returns c = record { law = documents_well (elements_accepted all_accepted) }
