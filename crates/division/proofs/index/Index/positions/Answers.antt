use Rattle.std.proofs.Common.{[], arith, ap, subst, ◌∙◌}
use Rattle.division.specs.Roots.{ArePositions, group_at}
use Rattle.division.proofs.RootGroups.{group_found, none_small}
use Rattle.division.proofs.index.Index.positions.Goals as goal

pub returns-then-arity-ge-ARITIES : goal.returns-then-arity-ge-ARITIES
returns-then-arity-ge-ARITIES c = record {
  positions = subst (λ roots. ArePositions roots c.args.label c.args.arity []) c.self.view_is
      (none_small c.self.inside.roots c.self.inside.groups.items c.args.label c.args.arity c.self.invariant c.if-arity-ge-ARITIES.true);
}

pub returns : goal.returns
returns c = record {
  positions = subst (λ roots. ArePositions roots c.args.label c.args.arity c.group_at.result.now) c.self.view_is
      (group_found c.self.inside.roots c.self.inside.groups.items c.args.label c.args.arity c.place_of.result c.group_at.result.now c.self.invariant (omega (arith, c.if-arity-ge-ARITIES.false)) c.place_of.ensures.place
      (c.group_at.ensures.group ∙ ap (λ l. group_at l c.place_of.result) c.as_slice-groups.ensures.value));
}
