use Rattle.std.proofs.Common.{take}
use Rattle.arity_completion.specs.Uses.{AreUsesOf, IsStepUse}
use Rattle.arity_completion.proofs.uses.step_uses.Given as goal

abbrev pub invariant-loop-cofactor : goal.invariant-loop-cofactor
invariant-loop-cofactor l = AreUsesOf (IsStepUse l.log.field l.log.gens l.shelf l.entries l.factor) (take l.cofactor-index l.cofactors) l.uses
