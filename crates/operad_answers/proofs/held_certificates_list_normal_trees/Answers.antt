use Rattle.operad_answers.proofs.CertificateLaws.{held_certificates as the_law}
use Rattle.operad_answers.proofs.held_certificates_list_normal_trees.Goals as goal

pub returns : goal.returns
returns c = record { law = the_law }
