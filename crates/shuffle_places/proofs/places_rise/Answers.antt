use Rattle.shuffle_places.proofs.PlaceOrder.{places_in_order as the_law}
use Rattle.shuffle_places.proofs.places_rise.Goals as goal

pub returns : goal.returns
returns c = record { law = the_law }
