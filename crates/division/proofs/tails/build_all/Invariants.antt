use Rattle.std.proofs.Common.{take}
use Rattle.division.specs.Parts.{built}
use Rattle.division.proofs.MadeTrees.{IsMaking}
use Rattle.division.proofs.tails.build_all.Given as goal

abbrev pub invariant-loop-tree : goal.invariant-loop-tree
invariant-loop-tree l = IsMaking l.fn.shelf l.shelf (built l.fn.shelf.trees l.parts) (take l.tree-index l.trees) l.fn.out l.out
