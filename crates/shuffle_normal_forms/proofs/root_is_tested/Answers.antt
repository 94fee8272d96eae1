use Rattle.shuffle_normal_forms.proofs.RootTests as roots
use Rattle.shuffle_normal_forms.proofs.root_is_tested.Goals as goal

pub returns : goal.returns
returns c = record { law = roots.root_is_tested }
