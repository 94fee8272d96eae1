use Rattle.operad_answers.proofs.TrialTexts.{texts_exist as the_law}
use Rattle.operad_answers.proofs.trial_texts_exist.Goals as goal

pub returns : goal.returns
returns c = record { law = the_law }
