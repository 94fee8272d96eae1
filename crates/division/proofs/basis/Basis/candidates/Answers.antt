use Rattle.std.proofs.Common.{subst}
use Rattle.division.specs.Bases.{Basis}
use Rattle.division.specs.Roots.{ArePositions}
use Rattle.division.proofs.Indexed.{leads_with}
use Rattle.division.proofs.basis.Basis.candidates.Goals as goal

pub returns : goal.returns
returns g c = record {
  exact = leads_with c.args.shelf.now c.args.self.now c.requires.indexed c.args.label c.args.arity c.positions.result.now
      (subst (λ (b : Basis). ArePositions b.roots c.args.label c.args.arity c.positions.result.now) c.self.view_is c.positions.ensures.positions);
}
