use Rattle.operad_ideals.proofs.Forms.{one_collected}
use Rattle.symmetric_sums.proofs.collecting.one_collected_form.Goals as goal

pub returns : goal.returns
returns c = record { law = one_collected }
