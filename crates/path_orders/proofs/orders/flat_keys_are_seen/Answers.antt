use Rattle.path_orders.proofs.Seen.{flat_seen}
use Rattle.path_orders.proofs.orders.flat_keys_are_seen.Goals as goal

pub returns : goal.returns
returns c = record { law = flat_seen }
