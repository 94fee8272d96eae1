use Rattle.std.proofs.Common.{take}
use Rattle.certificate_check.specs.Blocks.{elements_of}
use Rattle.certificate_check.proofs.GoodUses.{AreUsedSoFar}
use Rattle.certificate_check.proofs.uses.sum_of_uses.Given as goal

abbrev pub invariant-loop-item : goal.invariant-loop-item
invariant-loop-item l = AreUsedSoFar l.document.field l.document.gens l.document.rels (elements_of l.earlier) (take l.item-index l.uses) l.sum l.arity
