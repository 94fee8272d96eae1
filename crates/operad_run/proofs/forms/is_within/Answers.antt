use Rattle.std.proofs.Common.{subst, refl}
use Rattle.std.proofs.lemmas.Bool.{leb-true, le-leb}
use Rattle.symmetric_sums.specs.Terms.{ArityIs}
use Rattle.operad_run.proofs.AnswerSteps.{arity_within}
use Rattle.operad_run.proofs.forms.is_within.Goals as goal

pub returns-in-Some : goal.returns-in-Some
returns-in-Some c =
    let known = subst (ArityIs c.args.sum.now) c.in-Some.is c.arity.ensures.arity in
    (λ few. (c.in-Some.arity, leb-true c.in-Some.arity c.args.most few, (known.numbered c.in-Some.arity refl).1), λ within. let least = arity_within c.args.sum.now c.in-Some.arity c.args.most known within in le-leb c.in-Some.arity c.args.most least)
