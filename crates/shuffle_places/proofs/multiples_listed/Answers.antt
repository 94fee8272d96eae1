use Rattle.shuffle_places.proofs.Laws.{multiples_listed}
use Rattle.shuffle_places.proofs.multiples_listed.Goals as goal

pub returns : goal.returns
returns c = record { law = multiples_listed }
