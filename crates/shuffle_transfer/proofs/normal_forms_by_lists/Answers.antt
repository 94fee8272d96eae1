use Rattle.shuffle_transfer.proofs.NormalForms.{normal_forms_by_lists as the_law}
use Rattle.shuffle_transfer.proofs.normal_forms_by_lists.Goals as goal

pub returns : goal.returns
returns c = record { law = the_law }
