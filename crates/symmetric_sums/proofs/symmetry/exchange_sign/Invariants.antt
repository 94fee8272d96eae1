use Rattle.std.proofs.Common.{◌≡◌, map, drop}
use Rattle.symmetric_trees.specs.Generators.{part_of}
use Rattle.symmetric_sums.specs.Instances as spec
use Rattle.symmetric_sums.proofs.symmetry.exchange_sign.Given as goal

abbrev pub invariant-loop-part : goal.invariant-loop-part
invariant-loop-part l = spec.exchange_sign (map part_of (drop l.part-index l.parts)) l.input ≡ spec.exchange_sign (map part_of l.parts) l.fn.input
