use Rattle.shuffle_normal_forms.proofs.Numbers.{free_on_numbers}
use Rattle.shuffle_normal_forms.proofs.free_trees_on_numbers.Goals as goal

pub returns : goal.returns
returns c = record { law = free_on_numbers }
