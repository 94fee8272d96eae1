use Rattle.modular_sums.proofs.Laws.{residue_law}
use Rattle.modular_sums.proofs.residue_laws.Goals as goal

pub returns : goal.returns
returns c = record { law = residue_law }
