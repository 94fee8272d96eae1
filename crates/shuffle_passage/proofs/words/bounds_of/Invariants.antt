use Rattle.std.proofs.Common.{◌≡◌, ◌++◌, drop, map}
use Rattle.symmetric_trees.specs.Generators.{part_of}
use Rattle.shuffle_passage.specs.Words as spec
use Rattle.shuffle_passage.proofs.words.bounds_of.Given as goal

abbrev pub invariant-loop-part : goal.invariant-loop-part
invariant-loop-part l = l.bounds ++ spec.bounds_of (map part_of (drop l.part-index l.parts)) ≡ spec.bounds_of (map part_of l.parts)
