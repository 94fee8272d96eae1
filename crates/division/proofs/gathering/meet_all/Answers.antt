use Rattle.std.proofs.Common.{◌+◌, ◌^◌, ◌<◌, sym, subst, take}
use Rattle.std.proofs.lemmas.List.Elements.{All-take}
use Rattle.division.proofs.Meeting.{IsMeeting, came_last, came_taken, meeting_more}
use Rattle.division.proofs.gathering.meet_all.Goals as goal

pub loop-id-preserved : goal.loop-id-preserved
loop-id-preserved c =
    subst (λ f. IsMeeting c.args.ids.now c.meet.new.places c.meet.new.ids f (take (c.loop-id.id-index + 1) c.args.tail.now)) (sym c.in_ok-push.ensures.ok)
    (meeting_more c.args.ids.now c.loop-id.places c.meet.new.places c.loop-id.ids c.meet.new.ids c.loop-id.found c.args.tail.now c.loop-id.id-index c.id-item.result c.in_ok-place.place
    c.loop-id.invariant c.loop-id-test.true c.id-item.is c.meet.ensures.places c.meet.ensures.longer c.in_ok-place.ensures.there c.meet.ensures.held c.meet.ensures.only)

pub returns-in_err-place-clause-held : goal.returns-in_err-place-clause-held
returns-in_err-place-clause-held c = λ n a b.
    c.meet.ensures.held n (c.loop-id.invariant.held n a (All-take (λ i. i < n) c.loop-id.id-index c.args.tail.now b)) (subst (λ i. i < n) (sym c.id-item.is) (b c.loop-id.id-index c.id-item.result c.loop-id-test.true))

pub returns-in_err-push-clause-held : goal.returns-in_err-push-clause-held
returns-in_err-push-clause-held c = λ n a b.
    c.meet.ensures.held n (c.loop-id.invariant.held n a (All-take (λ i. i < n) c.loop-id.id-index c.args.tail.now b)) (subst (λ i. i < n) (sym c.id-item.is) (b c.loop-id.id-index c.id-item.result c.loop-id-test.true))

pub returns-clause-held : goal.returns-clause-held
returns-clause-held c = λ n a b. c.loop-id.invariant.held n a (All-take (λ i. i < n) c.loop-id.id-index c.args.tail.now b)

pub returns-in_err-place-clause-only : goal.returns-in_err-place-clause-only
returns-in_err-place-clause-only c =
    came_last c.args.ids.now c.loop-id.ids c.meet.new.ids c.loop-id.id-index c.id-item.result c.args.tail.now c.loop-id.invariant.only c.meet.ensures.only c.loop-id-test.true c.id-item.is

pub returns-in_err-push-clause-only : goal.returns-in_err-push-clause-only
returns-in_err-push-clause-only c =
    came_last c.args.ids.now c.loop-id.ids c.meet.new.ids c.loop-id.id-index c.id-item.result c.args.tail.now c.loop-id.invariant.only c.meet.ensures.only c.loop-id-test.true c.id-item.is

pub returns-clause-only : goal.returns-clause-only
returns-clause-only c = came_taken c.args.ids.now c.loop-id.ids c.loop-id.id-index c.args.tail.now c.loop-id.invariant.only

pub meet-requires-clause-low : goal.meet-requires-clause-low
meet-requires-clause-low c = c.loop-id.invariant.held (2 ^ 31) c.requires.low (All-take (λ i. i < 2 ^ 31) c.loop-id.id-index c.args.tail.now c.requires.tail)
