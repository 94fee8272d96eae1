use Rattle.shuffle_places.proofs.Commuting.{insertions_commute}
use Rattle.shuffle_places.proofs.insertions_commute.Goals as goal

pub returns : goal.returns
returns c = record { law = insertions_commute }
