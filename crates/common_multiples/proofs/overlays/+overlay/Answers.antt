use Rattle.std.proofs.Common.{◌+◌, suc, slice_index}
use Rattle.labelled_trees.specs.Meaning.{tree_of}
use Rattle.labelled_trees.specs.Trees.{vertices}
use Rattle.shuffle_places.specs.Overlays.{shape, shape_row}
use Rattle.tree_divisors.proofs.LaidPatterns.{rows}
use Rattle.common_multiples.specs.Building.{over_at, over_at_row}
use Rattle.common_multiples.proofs.Numbering.{shapes_from, over_inside, overs_more, overs_none, ends_next, ends_all, row_next, row_end}
use Rattle.common_multiples.proofs.overlays.+overlay.Goals as goal

pub loop-input-preserved : goal.loop-input-preserved
loop-input-preserved t c =
    let items = c.as_slice-input-items.result.now in
    let i = c.loop-input.input-index in
    let x = c.input-item.result in
    let part = c.in_ok-part-in-Node.part in
    let next = c.loop-input.next in
    let at = c.args.at in
    let b = shape (tree_of c.args.guest.now) in (
      row_next (slice_index c.args.numbers.now) c.args.placed (over_at_row (suc c.args.from) at (shape_row (rows items)) b) c.loop-input.made c.push.new.self part.tree c.loop-input.now part.placed (over_at_row next at (shapes_from i items) b)
          (over_at next at (shape (tree_of x)) b) (over_at_row part.next at (shapes_from (i + 1) items) b) (overs_more next part.next at b items i x c.loop-input-test.true c.input-item.is c.in_ok-part-in-Node.ensures.next)
          c.loop-input.invariant.0 c.in_ok-part-in-Node.ensures.tree c.in_ok-part-in-Node.ensures.placed c.in_ok-push-in-Node.ensures.ok,
      ends_next (c.args.from + vertices (tree_of c.args.host.now)) next part.next i items x c.loop-input-test.true c.input-item.is c.loop-input.invariant.1 c.in_ok-part-in-Node.ensures.next,
    )

pub returns-after-loop-input : goal.returns-after-loop-input
returns-after-loop-input t c =
    let items = c.as_slice-input-items.result.now in
    let i = c.loop-input.input-index in
    let next = c.loop-input.next in
    let at = c.args.at in
    let b = shape (tree_of c.args.guest.now) in
    let whole = row_end (slice_index c.args.numbers.now) c.args.placed (over_at_row (suc c.args.from) at (shape_row (rows items)) b) c.loop-input.made c.loop-input.now c.in-Node.label (over_at_row next at (shapes_from i items) b)
    (over_at c.args.from at (shape (tree_of c.args.host.now)) b) (overs_none next at b items i c.loop-input-test.false)
    (over_inside c.args.from at c.args.host.now c.args.guest.now c.in-Node.label c.in-Node.inputs items c.if-from-at.false c.in-Node.is c.as_slice-input-items.ensures) c.loop-input.invariant.0 in
    record { next = ends_all (c.args.from + vertices (tree_of c.args.host.now)) next i items c.loop-input-test.false c.loop-input.invariant.1; placed = whole.1; tree = whole.0 }
