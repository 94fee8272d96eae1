use Rattle.std.proofs.Common.{◌≡◌, ◌+◌, ◌<◌, arith, rules}
use Rattle.std.specs.Prelude.{slice_index}
use Rattle.labelled_trees.specs.Leaves.{leaf_count}
use Rattle.labelled_trees.specs.Meaning.{tree_of}
use Rattle.labelled_trees.specs.declared.Tree.TheViews.{the_lemmas}
use Rattle.shuffle_places.specs.Overlays.{shape, shape_row}
use Rattle.tree_divisors.proofs.LaidPatterns.{rows}
use Rattle.common_multiples.proofs.Numbering.{leaf_count-shape, count_inside, shape_node, shapes_from, shapes_more, shapes_none, row_next, row_fits, row_end}
use Rattle.common_multiples.proofs.overlays.+copy_numbered.Goals as goal

pub copy_numbered-requires : goal.copy_numbered-requires
copy_numbered-requires t c =
    let items = c.as_slice-input-items.result.now in
    let i = c.loop-input.input-index in
    let fit = row_fits (slice_index c.args.numbers.now) c.args.placed (shape_row (rows items)) c.loop-input.made c.loop-input.now (shapes_from i items) (shape (tree_of c.input-item.result)) (shapes_from (i + 1) items)
    (shapes_more items i c.input-item.result c.loop-input-test.true c.input-item.is) c.loop-input.invariant in
    let few : c.loop-input.now + leaf_count (tree_of c.input-item.result) < 256 = omega (arith, fit, c.requires.few, leaf_count-shape (tree_of c.input-item.result), count_inside c.args.tree.now c.in-Node.label c.in-Node.inputs items c.in-Node.is c.as_slice-input-items.ensures) in
    search (rules, the_lemmas)

pub loop-input-preserved : goal.loop-input-preserved
loop-input-preserved t c =
    let items = c.as_slice-input-items.result.now in
    let i = c.loop-input.input-index in
    let placed : c.in_ok-part-in-Node.then ≡ c.loop-input.now + leaf_count (shape (tree_of c.input-item.result)) = omega (arith, c.in_ok-part-in-Node.ensures.placed, leaf_count-shape (tree_of c.input-item.result)) in
    row_next (slice_index c.args.numbers.now) c.args.placed (shape_row (rows items)) c.loop-input.made c.push.new.self c.in_ok-part-in-Node.part c.loop-input.now c.in_ok-part-in-Node.then (shapes_from i items) (shape (tree_of c.input-item.result)) (shapes_from (i + 1) items)
    (shapes_more items i c.input-item.result c.loop-input-test.true c.input-item.is) c.loop-input.invariant c.in_ok-part-in-Node.ensures.tree placed c.in_ok-push-in-Node.ensures.ok

pub returns-after-loop-input : goal.returns-after-loop-input
returns-after-loop-input t c =
    let items = c.as_slice-input-items.result.now in
    let i = c.loop-input.input-index in
    let whole = row_end (slice_index c.args.numbers.now) c.args.placed (shape_row (rows items)) c.loop-input.made c.loop-input.now c.in-Node.label (shapes_from i items) (shape (tree_of c.args.tree.now))
    (shapes_none items i c.loop-input-test.false) (shape_node c.args.tree.now c.in-Node.label c.in-Node.inputs items c.in-Node.is c.as_slice-input-items.ensures) c.loop-input.invariant in
    record { placed = omega (arith, whole.1, leaf_count-shape (tree_of c.args.tree.now)); tree = whole.0 }
