-- The table without generators.
use Rattle.std.proofs.Common.{[], arith, rules}
use Rattle.symmetric_trees.specs.Generators.{IsTable}

pub table-empty : IsTable []
table-empty = record { few = omega arith; apart = search rules; arities = search rules; sizes = search rules }
