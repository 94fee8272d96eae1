use Rattle.shuffle_normal_forms.proofs.InOrder as order
use Rattle.shuffle_normal_forms.proofs.numbers_in_order.Goals as goal

pub returns : goal.returns
returns c = record { law = order.numbers_in_order }
