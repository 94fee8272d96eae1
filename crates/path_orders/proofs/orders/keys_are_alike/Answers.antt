use Rattle.path_orders.proofs.ComparableKeys as laws
use Rattle.path_orders.proofs.orders.keys_are_alike.Goals as goal

pub returns : goal.returns
returns c = record { law = laws.keys_are_alike }
