use Rattle.std.proofs.Common.{◌-◌, ◌+◌, length}
use Rattle.division.specs.Roots.{SameGroups}
use Rattle.division.proofs.index.widen_groups.Given as goal

abbrev pub invariant-widen : goal.invariant-widen
invariant-widen l = SameGroups l.fn.groups.items l.groups.items

abbrev pub decreases-widen : goal.decreases-widen
decreases-widen l = l.place + 1 - length l.groups.items
