use Rattle.shuffle_bases.proofs.Laws.{stand}
use Rattle.shuffle_bases.proofs.s_elements_stand.Goals as goal

pub returns : goal.returns
returns c = record { law = stand }
