use Rattle.symmetric_sums.proofs.Decisions.{collected_decide}
use Rattle.symmetric_sums.proofs.collecting.collected_forms_decide.Goals as goal

pub returns : goal.returns
returns c = record { law = collected_decide }
