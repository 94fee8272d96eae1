use Rattle.std.proofs.Common.{◌≡◌, ◌<◌, ℕ, List, length, sym, subst, ap, arith, Option, Some, None, slice_get}
use Rattle.std.proofs.lemmas.Option.{slice_get_within}
use Rattle.division.proofs.Meeting.{read_place}
use Rattle.division.proofs.Rowing.{id_at_rank}
use Rattle.division.proofs.rows.position_of.Goals as goal
use Rattle.division.proofs.rows.position_of.Goals.{After-index, In-Some}

-- the place of the id
placed : (c : After-index) → slice_get c.args.cone.now.places c.args.term.tree ≡ Some (Some c.requires.there.0)
placed c = c.requires.cone.1.places.to c.args.term.tree c.requires.there.0 c.requires.there.1

long : (c : After-index) → c.args.term.tree < length c.args.cone.now.places
long c = slice_get_within c.args.cone.now.places c.args.term.tree (Some c.requires.there.0) (placed c)

pub bounds : goal.bounds
bounds c = subst (λ i. i < length c.as_slice.result.now) (sym c.index.ensures.index) (subst (λ (l : List (Option ℕ)). c.args.term.tree < length l) (sym c.as_slice.ensures) (long c))

pub unreachable-requires : goal.unreachable-requires
unreachable-requires c =
    let a = (goal.at.unreachable-requires c).After-index in
    let q = read_place c.as_slice.result.now c.args.cone.now.places c.index.result c.args.term.tree None c.as_slice.ensures c.index.ensures.index (long a) c.in-None.is in
    let p = placed a in
    cc (p, q)

-- the place that was read
read : (c : In-Some) → c.in-Some.place ≡ c.requires.there.0
read c =
    let p = c.requires.cone.1.places.to c.args.term.tree c.requires.there.0 c.requires.there.1 in
    let q = read_place c.as_slice.result.now c.args.cone.now.places c.index.result c.args.term.tree (Some c.in-Some.place) c.as_slice.ensures c.index.ensures.index (slice_get_within c.args.cone.now.places c.args.term.tree (Some c.requires.there.0) p) c.in-Some.is in
    cc (p, q)

pub bounds-ranks-place : goal.bounds-ranks-place
bounds-ranks-place c =
    let e = read (goal.at.bounds-ranks-place c).In-Some in
    let lt = slice_get_within c.args.cone.now.ids c.requires.there.0 c.args.term.tree c.requires.there.1 in
    let m = c.requires.cone.1.ranks.as_many in
    let v = ap length c.as_slice-ranks.ensures.value in
    omega (arith, e, lt, m, v)

pub returns-clause-id : goal.returns-clause-id
returns-clause-id c =
    let e = read (goal.at.returns-clause-id c).In-Some in
    let r = (id_at_rank c.requires.cone.0 c.args.cone.now c.requires.cone.1 c.requires.there.0 c.args.term.tree c.requires.there.1).1 in
    rw (c.as_slice-ranks.ensures.value, e) r
