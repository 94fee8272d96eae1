use Rattle.operad_answers.proofs.WellFormed.{documents_well_formed}
use Rattle.operad_answers.proofs.documents_are_well_formed.Goals as goal

pub returns : goal.returns
returns c = record { law = documents_well_formed }
