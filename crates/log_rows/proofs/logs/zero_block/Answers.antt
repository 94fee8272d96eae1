use Rattle.cofactor_log.specs.Entries.{elements_of}
use Rattle.log_rows.proofs.logs.zero_block.Goals as goal

pub block_of-requires : goal.block_of-requires
block_of-requires c = let log = c.args.log.now in record { kept = c.zero.ensures.kept log.field log.gens log.rels (elements_of log.entries) }
