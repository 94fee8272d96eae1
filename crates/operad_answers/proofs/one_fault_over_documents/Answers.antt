use Rattle.operad_answers.proofs.CertificateLaws.{one_fault as the_law}
use Rattle.operad_answers.proofs.one_fault_over_documents.Goals as goal

pub returns : goal.returns
returns c = record { law = the_law }
