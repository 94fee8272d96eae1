use Rattle.normal_listing.proofs.SymbolTables.{IsTable}
use Rattle.normal_listing.proofs.tables.leaf_symbols.Given as goal

abbrev pub invariant-loop-at : goal.invariant-loop-at
invariant-loop-at l = IsTable l.leaves l.at l.symbols
