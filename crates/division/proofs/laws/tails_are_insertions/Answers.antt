use Rattle.division.proofs.Elements.{tails_inserted}
use Rattle.division.proofs.laws.tails_are_insertions.Goals as goal

pub returns : goal.returns
returns c = record { law = tails_inserted }
