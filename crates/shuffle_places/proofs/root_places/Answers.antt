use Rattle.shuffle_places.proofs.RootLaws.{roots}
use Rattle.shuffle_places.proofs.root_places.Goals as goal

pub returns : goal.returns
returns c = record { law = roots }
