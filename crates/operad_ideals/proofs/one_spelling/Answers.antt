use Rattle.operad_ideals.proofs.Spellings.{one_spelling}
use Rattle.operad_ideals.proofs.one_spelling.Goals as goal

pub returns : goal.returns
returns c = record { law = one_spelling }
