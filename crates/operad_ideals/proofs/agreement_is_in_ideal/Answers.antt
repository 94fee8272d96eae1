use Rattle.operad_ideals.proofs.AgreementLinks.{agreement_in_ideal}
use Rattle.operad_ideals.proofs.agreement_is_in_ideal.Goals as goal

pub returns : goal.returns
returns c = record { law = agreement_in_ideal }
