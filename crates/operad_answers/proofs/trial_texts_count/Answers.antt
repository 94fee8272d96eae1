use Rattle.operad_answers.proofs.TrialTexts.{trial_lines as the_law}
use Rattle.operad_answers.proofs.trial_texts_count.Goals as goal

pub returns : goal.returns
returns c = record { law = the_law }
