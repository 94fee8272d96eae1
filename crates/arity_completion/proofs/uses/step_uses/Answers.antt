use Rattle.std.proofs.Common.{sym, subst, take, ◌+◌}
use Rattle.arity_completion.specs.Uses.{AreUsesOf, IsStepUse}
use Rattle.arity_completion.proofs.Pushing.{uses_push}
use Rattle.arity_completion.proofs.uses.step_uses.Goals as goal

pub loop-cofactor-preserved : goal.loop-cofactor-preserved
loop-cofactor-preserved c =
    let IsUse = IsStepUse c.args.log.now.field c.args.log.now.gens c.args.shelf.now c.args.entries.now c.args.factor in
    subst (AreUsesOf (IsStepUse c.args.log.now.field c.args.log.now.gens c.args.shelf.now c.args.entries.now c.args.factor) (take (c.loop-cofactor.cofactor-index + 1) c.args.cofactors.now)) (sym c.in_ok-push.ensures.ok)
    (uses_push (IsStepUse c.args.log.now.field c.args.log.now.gens c.args.shelf.now c.args.entries.now c.args.factor) c.args.cofactors.now c.loop-cofactor.cofactor-index c.cofactor-item.result c.loop-cofactor.uses c.in_ok-step_use.field-0 c.loop-cofactor-test.true c.cofactor-item.is c.loop-cofactor.invariant
    c.in_ok-step_use.ensures)
