use Rattle.std.proofs.Common.{take}
use Rattle.shuffle_trees.proofs.Walking.{AreWithin}
use Rattle.shuffle_trees.proofs.keys.+greatest.Given as goal

abbrev pub decreases-greatest : goal.decreases-greatest
decreases-greatest l = goal.size-greatest l

abbrev pub invariant-loop-input : goal.invariant-loop-input
invariant-loop-input l = AreWithin l.most (take l.input-index l.input-items)
