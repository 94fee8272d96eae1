use Rattle.shuffle_insertions.proofs.Laws.{slots}
use Rattle.shuffle_insertions.proofs.frames_are_slots.Goals as goal

pub returns : goal.returns
returns c = record { law = slots }
