use Rattle.shuffle_normal_forms.proofs.FreeTreesSplit.{free_split}
use Rattle.shuffle_normal_forms.proofs.free_trees_split.Goals as goal

pub returns : goal.returns
returns c = record { law = free_split }
