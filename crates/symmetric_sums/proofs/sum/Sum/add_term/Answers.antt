use Rattle.std.proofs.Common.{refl, sym, subst, arith, ◌<◌}
use Rattle.symmetric_sums.specs.Terms.{HaveArity}
use Rattle.labelled_trees.proofs.Numbered.{numbered_of_labelled}
use Rattle.symmetric_sums.proofs.Numberings.{joins-refused, sum-push, same_arity, any_arity}
use Rattle.symmetric_sums.proofs.sum.Sum.add_term.Goals as goal
use Rattle.symmetric_sums.proofs.sum.Sum.add_term.Goals.{in-Some-arity+else-theirs-arity, in_default-arity}

pub unreachable-requires : goal.unreachable-requires
unreachable-requires c = c.in_default.ensures.none c.requires.labelled.0 (numbered_of_labelled c.requires.labelled.1)

pub returns-then-theirs-arity : goal.returns-then-theirs-arity
returns-then-theirs-arity c =
    let positive : 0 < c.args.coef = omega arith in
    record {
      answer = (
        refl,
        joins-refused c.args.self.now c.args.tree c.args.coef c.in-Some.arity c.in-Some-arity.theirs c.in-Some.ensures.numbered c.in-Some-arity.ensures.arity c.if-theirs-arity.true positive,
      );
    }

pub invariant_of-self : goal.invariant_of-self
invariant_of-self c =
    let positive : 0 < c.args.coef = omega arith in
    let have : HaveArity c.in-Some.arity c.args.self.now = elim c.match-arity.branch [
      | in-Some-arity+else-theirs-arity w ↦ same_arity c.args.self.now w.in-Some-arity.theirs c.in-Some.arity w.in-Some-arity.ensures.arity w.if-theirs-arity.false
      | in_default-arity w ↦ any_arity c.args.self.now c.arity.result c.in-Some.arity c.arity.ensures.arity w.in_default-arity.is
    ] in
    sum-push c.self.inside.terms c.push_term.new.terms c.self.inside.arity _ c.in-Some.arity c.self.invariant positive
    c.in-Some.ensures.numbered (subst (HaveArity c.in-Some.arity) (sym c.self.view_is) have) c.in-Ok.ensures.ok
