use Rattle.std.proofs.Common.{◌≡◌, ◌*◌, drop, length, map}
use Rattle.symmetric_trees.specs.Generators.{part_of}
use Rattle.shuffle_transfer.specs.Labels.{words_of}
use Rattle.shuffle_transfer.specs.LabelCounts.{part_orders}
use Rattle.shuffle_sums.proofs.counting.count_labels.Given as goal

abbrev pub invariant-loop-part : goal.invariant-loop-part
invariant-loop-part l = l.count ≡ length (words_of (map part_of l.generator.parts)) * part_orders (map part_of (drop l.part-index l.generator.parts))
