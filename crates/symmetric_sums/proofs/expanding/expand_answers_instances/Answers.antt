use Rattle.symmetric_sums.proofs.PlainInstances.{expand_answers_instances as the_law}
use Rattle.symmetric_sums.proofs.expanding.expand_answers_instances.Goals as goal

pub returns : goal.returns
returns c = record { law = the_law }
