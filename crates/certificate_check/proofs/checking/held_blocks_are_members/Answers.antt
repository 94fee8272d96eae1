use Rattle.certificate_check.proofs.HeldBlocks.{held_blocks}
use Rattle.certificate_check.proofs.checking.held_blocks_are_members.Goals as goal

pub returns : goal.returns
returns c = record { law = held_blocks }
