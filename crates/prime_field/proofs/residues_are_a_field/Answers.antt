use Rattle.prime_field.proofs.Laws.{fields}
use Rattle.prime_field.proofs.residues_are_a_field.Goals as goal

pub returns : goal.returns
returns c = record { law = fields }
