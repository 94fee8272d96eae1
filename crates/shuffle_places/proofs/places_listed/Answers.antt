use Rattle.shuffle_places.proofs.Laws.{places_listed}
use Rattle.shuffle_places.proofs.places_listed.Goals as goal

pub returns : goal.returns
returns c = record { law = places_listed }
