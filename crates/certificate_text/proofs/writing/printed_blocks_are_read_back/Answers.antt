use Rattle.certificate_text.proofs.BlocksRead.{blocks_accepted}
use Rattle.certificate_text.proofs.PresentationLaws.{elements_are_accepted, trees_are_accepted}
use Rattle.certificate_text.proofs.PrintedLines.{blocks_read_back}
use Rattle.certificate_text.proofs.writing.printed_blocks_are_read_back.Goals as goal

pub returns : goal.returns
returns c = record { law = blocks_read_back (blocks_accepted trees_are_accepted elements_are_accepted) }
