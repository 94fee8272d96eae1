use Rattle.shuffle_reductions.proofs.SpanChains.{chains_end_with_zero as the_law}
use Rattle.shuffle_reductions.proofs.chains_end_with_zero.Goals as goal

pub returns : goal.returns
returns c = record { law = the_law }
