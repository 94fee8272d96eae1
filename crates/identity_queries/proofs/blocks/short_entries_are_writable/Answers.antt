use Rattle.identity_queries.proofs.ShortEntries.{short_law}
use Rattle.identity_queries.proofs.blocks.short_entries_are_writable.Goals as goal

pub returns : goal.returns
returns c = record { law = short_law }
