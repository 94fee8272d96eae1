use Rattle.std.specs.Prelude.{slice_index, slice_index_or}
use Rattle.std.proofs.Common.{rules, ◌≡◌, ◌<◌, ◌∙◌, length, ap, arith}
use Rattle.division.proofs.Ruling.{any_default}
use Rattle.division.proofs.Rowing.{order_length, place_of_position}
use Rattle.division.proofs.rows.id_of.Goals as goal

pub bounds-order-term : goal.bounds-order-term
bounds-order-term c =
    let l = order_length c.requires.cone.0 c.args.cone.now c.requires.cone.1 in
    let v = ap length c.as_slice-order.ensures.value in
    let w = c.requires.within in
    omega (arith, l, v, w)

pub bounds-ids-place : goal.bounds-ids-place
bounds-ids-place c = rw (c.as_slice-order.ensures.value, c.as_slice-ids.ensures) (place_of_position c.requires.cone.0 c.args.cone.now c.requires.cone.1 c.args.term.position c.requires.within)

pub offset_bounds-ids-place : goal.offset_bounds-ids-place
offset_bounds-ids-place c =
    let low : slice_index_or c.as_slice-order.result.now c.args.term.position 0 < length c.as_slice-ids.result.now
    = rw (c.as_slice-order.ensures.value, c.as_slice-ids.ensures) (place_of_position c.requires.cone.0 c.args.cone.now c.requires.cone.1 c.args.term.position c.requires.within) in
    search rules

pub returns-clause-tree : goal.returns-clause-tree
returns-clause-tree c =
    let low = place_of_position c.requires.cone.0 c.args.cone.now c.requires.cone.1 c.args.term.position c.requires.within in
    let e : slice_index_or c.as_slice-ids.result.now (slice_index_or c.as_slice-order.result.now c.args.term.position 0) c.index-ids-place.result ≡ slice_index c.args.cone.now.ids (slice_index c.args.cone.now.order.items c.args.term.position)
    = rw (c.as_slice-order.ensures.value, c.as_slice-ids.ensures) (any_default c.args.cone.now.ids (slice_index c.args.cone.now.order.items c.args.term.position) c.index-ids-place.result 0 low) in
    c.index-ids-place.is ∙ e
