use Rattle.std.proofs.Common.{ℕ, List, arith, ap, length, subst}
use Rattle.tree_divisors.specs.Finding.{HasNoPlace}
use Rattle.division.specs.Bases.{lead_at}
use Rattle.division.proofs.basis.Basis.divider.Goals as goal

pub returns : goal.returns
returns g c = record {
  divider = λ e lt.
      let all = c.loop-at-test.false in
      let same = ap length c.elements-elements.ensures.elements in
      subst (λ (l : List (List (ℕ × ℕ))). HasNoPlace (lead_at c.args.shelf.now l e) c.args.tree.now) c.elements-elements.ensures.elements (c.loop-at.invariant e (omega (arith, lt, all, same)));
}
