use Rattle.path_orders.proofs.Seen.{seen}
use Rattle.path_orders.proofs.orders.keys_are_seen.Goals as goal

pub returns : goal.returns
returns c = record { law = seen }
