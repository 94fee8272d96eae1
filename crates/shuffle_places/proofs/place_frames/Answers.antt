use Rattle.shuffle_places.proofs.Laws.{place_frames}
use Rattle.shuffle_places.proofs.place_frames.Goals as goal

pub returns : goal.returns
returns c = record { law = place_frames }
