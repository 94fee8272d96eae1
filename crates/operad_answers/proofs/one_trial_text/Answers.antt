use Rattle.operad_answers.proofs.TrialTexts.{one_text as the_law}
use Rattle.operad_answers.proofs.one_trial_text.Goals as goal

pub returns : goal.returns
returns c = record { law = the_law }
