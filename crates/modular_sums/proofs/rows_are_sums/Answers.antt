use Rattle.modular_sums.proofs.PositionRows.{rows_are_sums_lem}
use Rattle.modular_sums.proofs.rows_are_sums.Goals as goal

pub returns : goal.returns
returns c = record { law = rows_are_sums_lem }
