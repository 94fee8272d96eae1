use Rattle.cofactor_log.specs.Entries.{elements_of}
use Rattle.log_rows.proofs.logs.push_zero.Goals as goal

pub push-requires : goal.push-requires
push-requires c = let log = c.args.log.now in record { kept = c.zero.ensures.kept log.field log.gens log.rels (elements_of log.entries) }
