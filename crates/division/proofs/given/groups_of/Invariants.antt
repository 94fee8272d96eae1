use Rattle.division.proofs.LabelGroups.{AreGroupsBelow}
use Rattle.division.proofs.given.groups_of.Given as goal

abbrev pub invariant-loop-at : goal.invariant-loop-at
invariant-loop-at l = AreGroupsBelow l.store l.reducers l.groups.items l.at
