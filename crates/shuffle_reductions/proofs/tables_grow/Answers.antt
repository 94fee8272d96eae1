use Rattle.shuffle_reductions.proofs.GrownTables.{tables_grow_lem}
use Rattle.shuffle_reductions.proofs.tables_grow.Goals as goal

pub returns : goal.returns
returns c = record { law = tables_grow_lem }
