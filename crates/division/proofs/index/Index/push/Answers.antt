use Rattle.std.proofs.Common.{sym, subst}
use Rattle.division.specs.Roots.{AreGrouped, EntersLabel}
use Rattle.division.proofs.RootGroups.{grouped_more}
use Rattle.division.proofs.index.Index.push.Goals as goal

pub invariant_of-self-in-Ok : goal.invariant_of-self-in-Ok
invariant_of-self-in-Ok c =
    subst (λ roots. AreGrouped roots c.enter_group.new.groups.items) (sym c.in_ok-push.ensures.ok)
    (grouped_more c.self.inside.roots c.self.inside.groups.items c.enter_group.new.groups.items c.args.root c.self.invariant c.requires.small
    (subst (EntersLabel c.self.inside.groups.items c.enter_group.new.groups.items c.args.root.label c.args.root.arity) c.len-position.ensures c.in-Ok.ensures.entered))
