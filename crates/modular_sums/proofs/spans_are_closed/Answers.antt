use Rattle.modular_sums.proofs.Laws.{span_law}
use Rattle.modular_sums.proofs.spans_are_closed.Goals as goal

pub returns : goal.returns
returns g c = record { law = span_law g.row.M.Denot g.row.I.Denot }
