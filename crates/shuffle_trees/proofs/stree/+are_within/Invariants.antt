use Rattle.std.proofs.Common.{take}
use Rattle.shuffle_trees.proofs.Walking.{AreWithin}
use Rattle.shuffle_trees.proofs.stree.+are_within.Given as goal

abbrev pub decreases-are_within : goal.decreases-are_within
decreases-are_within l = goal.size-are_within l

abbrev pub invariant-loop-input : goal.invariant-loop-input
invariant-loop-input l = AreWithin l.most (take l.input-index l.input-items)
