use Rattle.shuffle_normal_forms.proofs.Levels as levels
use Rattle.shuffle_normal_forms.proofs.levels_suffice.Goals as goal

pub returns : goal.returns
returns c = record { law = levels.levels_suffice }
