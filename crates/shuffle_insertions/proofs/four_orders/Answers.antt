use Rattle.shuffle_insertions.proofs.Laws.{orders}
use Rattle.shuffle_insertions.proofs.four_orders.Goals as goal

pub returns : goal.returns
returns c = record { law = orders }
