use Rattle.normal_listing.proofs.SetBits as bits
use Rattle.normal_listing.proofs.laws.set_with_last.Goals as goal

pub returns : goal.returns
returns c = record { law = bits.set_with_last }
