use Rattle.operad_answers.proofs.CertificateLaws.{written_over as the_law}
use Rattle.operad_answers.proofs.written_certificates_hold_over.Goals as goal

pub returns : goal.returns
returns c = record { law = the_law }
