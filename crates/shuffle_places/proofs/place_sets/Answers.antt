use Rattle.shuffle_places.proofs.Laws.{place_sets}
use Rattle.shuffle_places.proofs.place_sets.Goals as goal

pub returns : goal.returns
returns c = record { law = place_sets }
