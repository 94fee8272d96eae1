use Rattle.normal_listing.proofs.LastParts as parts
use Rattle.normal_listing.proofs.laws.parts_with_last.Goals as goal

pub returns : goal.returns
returns c = record { law = parts.parts_with_last }
