use Rattle.shuffle_completion.proofs.ExistenceLaws.{forms_exist}
use Rattle.shuffle_completion.proofs.normal_forms_exist.Goals as goal

pub returns : goal.returns
returns c = record { law = forms_exist }
