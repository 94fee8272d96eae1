use Rattle.std.proofs.Common.{[], ◌≡◌, ◌-◌, ◌++◌, ◌∙◌, ap, take, subst, sym}
use Rattle.std.specs.List.{AllByRecursion}
use Rattle.symmetric_sums.specs.Collecting.{IsResidue}
use Rattle.operad_ideals.proofs.LastOnes.{each-pop}
use Rattle.symmetric_sums.proofs.Joining.{way-start, way-step, way-end, IsOnTheWay}
use Rattle.symmetric_sums.proofs.collecting.joined.Goals as goal

pub loop-term-init : goal.loop-term-init
loop-term-init c = subst (IsOnTheWay c.args.field c.args.rest.items c.args.rest.items) (sym c.new-terms.ensures) (way-start c.args.field c.args.rest.items c.requires.order c.requires.residues)

pub join-requires-clause-residue : goal.join-requires-clause-residue
join-requires-clause-residue c =
    (each-pop (IsResidue c.args.field) c.pop.new.self.items c.in-Some.term (subst (AllByRecursion (IsResidue c.args.field)) c.in-Some.ensures.items c.loop-term.invariant.rest_residues)).1

pub loop-term-preserved : goal.loop-term-preserved
loop-term-preserved c =
    way-step c.args.field c.args.rest.items c.loop-term.rest.items c.pop.new.self.items c.loop-term.terms c.join.new.terms c.in-Some.term c.loop-term.invariant c.in-Some.ensures.items c.in_ok-join.ensures

pub returns : goal.returns
returns c =
    let none : c.loop-term.rest.items ≡ [] = c.in_default.ensures.items ∙ ap (λ xs. xs ++ []) (c.in_default.ensures.rest ∙ ap (λ n. take (n - 1) c.loop-term.rest.items) c.in_default.ensures.cases.0) in
    way-end c.args.field c.args.rest.items c.loop-term.terms (subst (λ xs. IsOnTheWay c.args.field c.args.rest.items xs c.loop-term.terms) none c.loop-term.invariant)
