use Rattle.operad_answers.proofs.TrialBudgets.{budgets as the_law}
use Rattle.operad_answers.proofs.trial_budgets.Goals as goal

pub returns : goal.returns
returns c = record { law = the_law }
