use Rattle.std.proofs.Common.{◌≡◌, take}
use Rattle.labelled_trees.proofs.Tree.+copy.Given as goal

abbrev pub invariant-loop-input : goal.invariant-loop-input
invariant-loop-input l = l.copies ≡ take l.input-index l.input-items
