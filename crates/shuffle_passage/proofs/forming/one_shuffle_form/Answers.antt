use Rattle.shuffle_passage.proofs.ThereAndBack.{one_shuffle_form}
use Rattle.shuffle_passage.proofs.forming.one_shuffle_form.Goals as goal

pub returns : goal.returns
returns c = record { law = one_shuffle_form }
