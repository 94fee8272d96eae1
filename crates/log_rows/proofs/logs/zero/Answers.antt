use Rattle.log_rows.proofs.ZeroEntries.{zero_is_kept}
use Rattle.log_rows.proofs.logs.zero.Goals as goal

pub returns : goal.returns
returns c = record { kept = λ p generators rels earlier. zero_is_kept p generators rels earlier c.new.result c.new-2.result c.new.ensures.empty c.new-2.ensures }
