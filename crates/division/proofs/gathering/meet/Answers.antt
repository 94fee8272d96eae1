use Rattle.std.proofs.Common.{◌<◌, Some, None, length, subst}
use Rattle.division.proofs.Meeting.{same_places, read_place}
use Rattle.division.proofs.gathering.meet.Goals as goal

pub enter-requires-clause-places : goal.enter-requires-clause-places
enter-requires-clause-places c = same_places c.args.places.now c.widen.new.places c.args.ids.now c.widen.ensures.same c.requires.places

pub enter-requires-clause-new : goal.enter-requires-clause-new
enter-requires-clause-new c =
    let low : c.args.id < length c.widen.new.places = subst (λ i. i < length c.widen.new.places) c.index.ensures.index c.in_ok-widen.ensures.long in
    read_place c.as_slice.result.now c.widen.new.places c.index-2.result c.args.id None c.as_slice.ensures c.index-2.ensures.index low c.in-None.is

pub returns-in-Some-clause-there : goal.returns-in-Some-clause-there
returns-in-Some-clause-there c =
    let low : c.args.id < length c.widen.new.places = subst (λ i. i < length c.widen.new.places) c.index.ensures.index c.in_ok-widen.ensures.long in
    let stands = read_place c.as_slice.result.now c.widen.new.places c.index-2.result c.args.id (Some c.in-Some.place) c.as_slice.ensures c.index-2.ensures.index low c.in-Some.is in
    c.requires.places.of c.args.id c.in-Some.place ((c.widen.ensures.same c.args.id c.in-Some.place).1 stands)

pub returns-in-Some-clause-places : goal.returns-in-Some-clause-places
returns-in-Some-clause-places c = same_places c.args.places.now c.widen.new.places c.args.ids.now c.widen.ensures.same c.requires.places

pub returns-in_err-widen-clause-places : goal.returns-in_err-widen-clause-places
returns-in_err-widen-clause-places c = same_places c.args.places.now c.widen.new.places c.args.ids.now c.widen.ensures.same c.requires.places
