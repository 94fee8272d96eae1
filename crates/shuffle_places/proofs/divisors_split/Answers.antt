use Rattle.shuffle_places.proofs.RootLaws.{split}
use Rattle.shuffle_places.proofs.divisors_split.Goals as goal

pub returns : goal.returns
returns c = record { law = split }
