use Rattle.std.proofs.Common.{sym, subst}
use Rattle.division.specs.Gathered.{SamePlaces}
use Rattle.division.proofs.Meeting.{same_pushed}
use Rattle.division.proofs.gathering.widen.Goals as goal

pub loop-places-preserved : goal.loop-places-preserved
loop-places-preserved c = subst (SamePlaces c.args.places.now) (sym c.in_ok-push.ensures.ok) (same_pushed c.args.places.now c.loop-places.places c.loop-places.invariant)

pub returns-in_err-push-clause-same : goal.returns-in_err-push-clause-same
returns-in_err-push-clause-same c = subst (SamePlaces c.args.places.now) (sym c.in_err-push.ensures.err) c.loop-places.invariant
