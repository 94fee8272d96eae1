use Rattle.shuffle_insertions.proofs.BlockComparisons as laws
use Rattle.shuffle_insertions.proofs.blocks_compare.Goals as goal

pub returns : goal.returns
returns c = record { law = laws.blocks_compare }
