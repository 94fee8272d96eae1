use Rattle.shuffle_places.proofs.Laws.{multiples_fit}
use Rattle.shuffle_places.proofs.multiples_fit.Goals as goal

pub returns : goal.returns
returns c = record { law = multiples_fit }
