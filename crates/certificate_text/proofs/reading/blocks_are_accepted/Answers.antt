use Rattle.certificate_text.proofs.BlocksRead.{blocks_accepted}
use Rattle.certificate_text.proofs.PresentationLaws.{elements_are_accepted, trees_are_accepted}
use Rattle.certificate_text.proofs.reading.blocks_are_accepted.Goals as goal

pub returns : goal.returns
returns c = record { law = blocks_accepted trees_are_accepted elements_are_accepted }
