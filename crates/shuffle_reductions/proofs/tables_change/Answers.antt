use Rattle.shuffle_reductions.proofs.GrownTables.{tables_change_lem}
use Rattle.shuffle_reductions.proofs.tables_change.Goals as goal

pub returns : goal.returns
returns c = record { law = tables_change_lem }
