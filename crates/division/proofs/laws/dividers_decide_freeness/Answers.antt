use Rattle.division.proofs.Elements.{free_told}
use Rattle.division.proofs.laws.dividers_decide_freeness.Goals as goal

pub returns : goal.returns
returns c = record { law = free_told }
