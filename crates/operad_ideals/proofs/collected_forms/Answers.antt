use Rattle.operad_ideals.proofs.Collected.{collected_forms as the_law}
use Rattle.operad_ideals.proofs.collected_forms.Goals as goal

pub returns : goal.returns
returns c = record { law = the_law }
