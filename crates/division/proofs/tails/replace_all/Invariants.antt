use Rattle.std.proofs.Common.{take}
use Rattle.division.specs.Insertions.{with_other}
use Rattle.division.proofs.MadeTrees.{IsMaking}
use Rattle.division.proofs.tails.replace_all.Given as goal

abbrev pub invariant-loop-other : goal.invariant-loop-other
invariant-loop-other l = IsMaking l.fn.shelf l.shelf (with_other l.fn.shelf.trees l.host l.at) (take l.other-index l.others) l.fn.out l.out
