use Rattle.std.proofs.Common.{◌≤◌}
use Rattle.symmetric_trees.specs.Generators.{generators_of}
use Rattle.shuffle_passage.specs.Words.{first_label}
use Rattle.shuffle_passage.proofs.words.generator_of.Given as goal

abbrev pub invariant-loop-index : goal.invariant-loop-index
invariant-loop-index l = first_label (generators_of l.table) l.index ≤ l.label
