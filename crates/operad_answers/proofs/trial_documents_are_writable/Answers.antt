use Rattle.operad_answers.proofs.TrialWritable.{documents_are_writable as the_law}
use Rattle.operad_answers.proofs.trial_documents_are_writable.Goals as goal

pub returns : goal.returns
returns c = record { law = the_law }
