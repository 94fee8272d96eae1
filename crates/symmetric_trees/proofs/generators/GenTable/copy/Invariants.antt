use Rattle.std.proofs.Common.{◌≡◌, take}
use Rattle.symmetric_trees.proofs.generators.GenTable.copy.Given as goal

abbrev pub invariant-loop-generator : goal.invariant-loop-generator
invariant-loop-generator l = l.generators ≡ take l.generator-index l.generator-items
