use Rattle.operad_answers.proofs.TrialDocuments.{documents_write as the_law}
use Rattle.operad_answers.proofs.trial_documents_write.Goals as goal

pub returns : goal.returns
returns c = record { law = the_law }
