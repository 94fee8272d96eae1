use Rattle.std.proofs.Common.{◌∙◌, ◌++◌, ap, arith, map}
use Rattle.labelled_trees.specs.Trees.{row, leaves_row}
use Rattle.shuffle_trees.specs.FlatKeys.{flat_labels, flat_row, letters}
use Rattle.shuffle_trees.specs.Walks.{vertex_labels_row}
use Rattle.tree_store.specs.Stores.{tree_at}
use Rattle.tree_store.proofs.Counts.{held_valid}
use Rattle.shuffle_sums.proofs.Rooms.{label_fits, labels_at_end, leaf_fits, room_for_input, two_leaves}
use Rattle.shuffle_sums.proofs.walk.+fill.Goals as goal

pub put_leaf-requires-clause-number : goal.put_leaf-requires-clause-number
put_leaf-requires-clause-number t c = leaf_fits (tree_at c.args.store.now c.args.id) c.in-Leaf.number _ _ _ c.in-Leaf.ensures.root c.requires.room

pub put_vertex-requires : goal.put_vertex-requires
put_vertex-requires t c =
    label_fits (tree_at c.args.store.now c.args.id) c.in-Node.label (row (map (tree_at c.args.store.now) c.in-Node.inputs.now)) _ _ _ c.in-Node.ensures.root.0
    (held_valid c.args.store.now c.args.id c.node.ensures.store c.requires.held) c.requires.room

pub with-below-requires : goal.with-below-requires
with-below-requires t c =
    let two = two_leaves (tree_at c.args.store.now c.args.id) c.in-Node.label (row (map (tree_at c.args.store.now) c.in-Node.inputs.now)) c.in-Node.ensures.root.0 (held_valid c.args.store.now c.args.id c.node.ensures.store c.requires.held) in
    let fits = c.requires.room.letters_fit in
    omega (arith, two, fits)

pub fill-requires : goal.fill-requires
fill-requires t c =
    let trees = c.args.store.now in
    let ids = c.in-Node.inputs.now in
    let less = c.in-Node.ensures.root.1 c.loop-input.input-index c.input-item.result c.loop-input-test.true in
    let at = c.input-item.is in
    let room = room_for_input trees ids c.args.id c.in-Node.label c.loop-input.input-index c.input-item.result (letters c.args.word) (letters c.with-below.result)
    (flat_row c.args.key.now) (flat_row c.loop-input.key) (flat_labels c.args.key.now) (flat_labels c.loop-input.key)
    c.node.ensures.store c.requires.held c.in-Node.ensures.root.0 c.loop-input-test.true c.input-item.is c.requires.room c.with-below.ensures
    (c.loop-input.invariant.row_is ∙ ap (λ l. l ++ leaves_row (row (map (tree_at trees) ids))) c.put_vertex.ensures.row)
    (c.loop-input.invariant.labels ∙ ap (λ l. l ++ vertex_labels_row (row (map (tree_at trees) ids))) c.put_vertex.ensures.labels) in
    (omega (arith, less, at), (omega (arith, less, at), room))

pub returns-after-loop-input-clause-labels : goal.returns-after-loop-input-clause-labels
returns-after-loop-input-clause-labels t c =
    labels_at_end c.args.store.now c.in-Node.inputs.now (tree_at c.args.store.now c.args.id) c.in-Node.label c.loop-input.input-index (flat_labels c.loop-input.key) _ (flat_labels c.args.key.now)
    c.loop-input-test.false c.in-Node.ensures.root.0 c.put_vertex.ensures.labels c.loop-input.invariant.labels
