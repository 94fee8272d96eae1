use Rattle.std.proofs.Common.{refl}
use Rattle.symmetric_sums.proofs.Numberings.{two_arities, joint-some, same_arity}
use Rattle.symmetric_sums.proofs.sum.Sum.joint_arity.Goals as goal

pub returns-then-theirs-own : goal.returns-then-theirs-own
returns-then-theirs-own c = (refl, two_arities c.args.self.now c.args.other.now c.in-Some.own c.in-Some-arity.theirs c.in-Some.ensures.arity c.in-Some-arity.ensures.arity c.if-theirs-own.true)

pub returns-else-theirs-own : goal.returns-else-theirs-own
returns-else-theirs-own c = joint-some c.args.self.now c.args.other.now c.in-Some.own c.in-Some.ensures.arity (same_arity c.args.other.now c.in-Some-arity.theirs c.in-Some.own c.in-Some-arity.ensures.arity c.if-theirs-own.false)
