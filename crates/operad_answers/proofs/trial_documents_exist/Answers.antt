use Rattle.operad_answers.proofs.TrialDocuments.{documents_exist as the_law}
use Rattle.operad_answers.proofs.trial_documents_exist.Goals as goal

pub returns : goal.returns
returns c = record { law = the_law }
