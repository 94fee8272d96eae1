use Rattle.std.proofs.Common.{◌≡◌, length, map}
use Rattle.operad_ideals.specs.Parts.{times}
use Rattle.operad_ideals.specs.Sorting.{order_sign}
use Rattle.symmetric_trees.specs.Spelling.{meaning_of}
use Rattle.symmetric_trees.proofs.parts.order_sign.Given as goal

abbrev pub invariant-loop-rest : goal.invariant-loop-rest
invariant-loop-rest g l = times (meaning_of l.sign) (order_sign (map g.T.Keyed.key_of l.rest)) ≡ order_sign (map g.T.Keyed.key_of l.items)

abbrev pub decreases-loop-rest : goal.decreases-loop-rest
decreases-loop-rest g l = length l.rest
