use Rattle.shuffle_transfer.proofs.FramesBack.{frames_back as the_law}
use Rattle.shuffle_transfer.proofs.frames_back.Goals as goal

pub returns : goal.returns
returns c = record { law = the_law }
