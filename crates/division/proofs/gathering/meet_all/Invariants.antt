use Rattle.std.proofs.Common.{take}
use Rattle.division.proofs.Meeting.{IsMeeting}
use Rattle.division.proofs.gathering.meet_all.Given as goal

abbrev pub invariant-loop-id : goal.invariant-loop-id
invariant-loop-id l = IsMeeting l.fn.ids l.places l.ids l.found (take l.id-index l.tail)
