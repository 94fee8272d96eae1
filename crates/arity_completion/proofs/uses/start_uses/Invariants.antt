use Rattle.std.proofs.Common.{take}
use Rattle.arity_completion.specs.Uses.{AreUsesOf, IsStartUse}
use Rattle.arity_completion.proofs.uses.start_uses.Given as goal

abbrev pub invariant-loop-start : goal.invariant-loop-start
invariant-loop-start l = AreUsesOf (IsStartUse l.factor) (take l.start-index l.starts) l.uses
