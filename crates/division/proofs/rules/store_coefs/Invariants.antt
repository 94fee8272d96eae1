use Rattle.std.proofs.Common.{take}
use Rattle.division.proofs.Ruling.{AreStoredSoFar}
use Rattle.division.proofs.rules.store_coefs.Given as goal

abbrev pub invariant-loop-element : goal.invariant-loop-element
invariant-loop-element l = AreStoredSoFar l.fn.table l.table l.froms.items (take l.element-index l.coefs)
