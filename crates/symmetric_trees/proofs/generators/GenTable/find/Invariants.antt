use Rattle.std.proofs.Common.{ℕ, ◌<◌}
use Rattle.std.specs.Prelude.{slice_index_or}
use Rattle.symmetric_trees.specs.declared.generators.Generator.{Generator}
use Rattle.symmetric_trees.specs.Generators.{IsNamed}
use Rattle.symmetric_trees.proofs.generators.GenTable.find.Given as goal

abbrev pub invariant-loop-index : goal.invariant-loop-index
invariant-loop-index l = (k : ℕ) (d : Generator) → k < l.index → IsNamed l.name (slice_index_or l.self k d) → ⊥
