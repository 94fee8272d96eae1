use Rattle.shuffle_transfer.proofs.Orderings.{all_orderings}
use Rattle.shuffle_transfer.proofs.all_relabellings.Goals as goal

pub returns : goal.returns
returns c = record { law = all_orderings }
