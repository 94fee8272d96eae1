use Rattle.operad_ideals.proofs.Agreement.{agreement_keeps_labels}
use Rattle.operad_ideals.proofs.agreement_keeps_labels.Goals as goal

pub returns : goal.returns
returns c = record { law = agreement_keeps_labels }
