use Rattle.shuffle_places.proofs.RootLaws.{in_inputs}
use Rattle.shuffle_places.proofs.input_places.Goals as goal

pub returns : goal.returns
returns c = record { law = in_inputs }
