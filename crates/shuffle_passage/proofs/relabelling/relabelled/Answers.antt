use Rattle.std.proofs.Common.{◌≡◌, subst}
use Rattle.symmetric_sums.specs.Terms.{HaveArity}
use Rattle.symmetric_sums.proofs.Numberings.{one_arity}
use Rattle.shuffle_passage.proofs.relabelling.relabelled.Goals as goal

pub renamed-requires-clause-ordering : goal.renamed-requires-clause-ordering
renamed-requires-clause-ordering c =
    let k = c.arity.ensures.arity.numbered c.in-Some.arity c.in-Some.is in
    c.requires.permutation c.in-Some.arity k.0 k.1

pub returns-clause-labelled : goal.returns-clause-labelled
returns-clause-labelled c n h some =
    let e : c.in-Some.arity ≡ n = one_arity c.args.rel.now c.in-Some.arity n c.in-Some.ensures.arity h in
    c.collected.ensures.labelled n (subst (λ m. HaveArity m c.in_ok-sum.sum) e c.in_ok-sum.ensures.arity)
