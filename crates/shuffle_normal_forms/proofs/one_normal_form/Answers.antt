use Rattle.shuffle_normal_forms.proofs.Laws.{one_form}
use Rattle.shuffle_normal_forms.proofs.one_normal_form.Goals as goal

pub returns : goal.returns
returns c = record { law = one_form }
