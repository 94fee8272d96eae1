use Rattle.shuffle_reductions.proofs.SweptThrough.{swept}
use Rattle.shuffle_reductions.proofs.swept_chains.Goals as goal

pub returns : goal.returns
returns c = record { law = swept }
