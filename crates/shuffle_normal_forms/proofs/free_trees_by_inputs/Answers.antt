use Rattle.shuffle_normal_forms.proofs.ByInputs.{by_inputs}
use Rattle.shuffle_normal_forms.proofs.free_trees_by_inputs.Goals as goal

pub returns : goal.returns
returns c = record { law = by_inputs }
