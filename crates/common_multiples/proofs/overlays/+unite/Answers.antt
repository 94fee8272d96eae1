use Rattle.std.proofs.Common.{◌≡◌, ◌+◌, ◌<◌, ◌≤◌, ◌∙◌, length, get_or, arith, sym, ap, subst, IfOk, slice_index}
use Rattle.labelled_trees.specs.Leaves.{leaf_count}
use Rattle.labelled_trees.specs.Meaning.{tree_of}
use Rattle.labelled_trees.specs.Unions.{union, union_row}
use Rattle.shuffle_places.specs.Overlays.{shape, shape_row}
use Rattle.tree_divisors.proofs.LaidPatterns.{rows}
use Rattle.common_multiples.proofs.Numbering.{leaf_count-shape, count_first, count_second, union_nodes, shapes_from, unions_more, unions_alone, unions_none, row_next, row_fits, row_end}
use Rattle.common_multiples.proofs.overlays.+unite.Goals as goal
use Rattle.common_multiples.proofs.overlays.+unite.Goals.{in-Some+in_ok-unite-in-Some, in-None+in_ok-part-in-None}

pub copy_numbered-requires : goal.copy_numbered-requires
copy_numbered-requires t c = record { few = omega (arith, c.requires.few, count_first c.args.host.now c.args.guest.now c.in-Leaf-default.field-0-0 c.in-Leaf-default.is-0) }

pub copy_numbered-requires-in_default-Leaf : goal.copy_numbered-requires-in_default-Leaf
copy_numbered-requires-in_default-Leaf t c = record { few = omega (arith, c.requires.few, count_second c.args.host.now c.args.guest.now c.in_default-Leaf.field-0-1 c.in_default-Leaf.is-1) }

pub copy_numbered-requires-in-None : goal.copy_numbered-requires-in-None
copy_numbered-requires-in-None t c =
    let items = c.as_slice-input-items.result.now in
    let parts = c.in-Node-Node.parts in
    let i = c.loop-at.at in
    let short : length parts ≤ i = subst (λ us. length us ≤ i) c.as_slice.ensures c.in-None.ensures.lookup.3 in
    let fit = row_fits (slice_index c.args.numbers.now) c.args.placed (union_row (shape_row (rows items)) (shape_row (rows parts))) c.loop-at.made c.loop-at.now (union_row (shapes_from i items) (shapes_from i parts)) (shape (tree_of c.input-item.result))
    (union_row (shapes_from (i + 1) items) (shapes_from (i + 1) parts)) (unions_alone items parts i c.input-item.result c.loop-at-test.true c.input-item.is short) c.loop-at.invariant in
    let whole = ap leaf_count (union_nodes c.args.host.now c.args.guest.now c.in-Node-Node.label c.in-Node-Node.field-0-1 c.in-Node-Node.inputs items parts c.in-Node-Node.is-0 c.as_slice-input-items.ensures c.in-Node-Node.is-1) in
    record { few = omega (arith, fit, c.requires.few, leaf_count-shape (tree_of c.input-item.result), whole) }

pub loop-at-preserved : goal.loop-at-preserved
loop-at-preserved t c =
    let items = c.as_slice-input-items.result.now in
    let parts = c.in-Node-Node.parts in
    let i = c.loop-at.at in
    let x = c.input-item.result in
    let next = row_next (slice_index c.args.numbers.now) c.args.placed (union_row (shape_row (rows items)) (shape_row (rows parts))) c.loop-at.made c.push.new.self c.match-get.part.0 c.loop-at.now c.match-get.part.1 (union_row (shapes_from i items) (shapes_from i parts)) in
    let left = union_row (shapes_from (i + 1) items) (shapes_from (i + 1) parts) in
    elim c.match-get.branch [
      | in-Some+in_ok-unite-in-Some w ↦
          let other = w.in-Some.other.now in
          let short : i < length parts = subst (λ us. i < length us) c.as_slice.ensures w.in-Some.ensures.lookup.3.0 in
          let there : other ≡ get_or parts i other = subst (λ us. other ≡ get_or us i other) c.as_slice.ensures w.in-Some.ensures.lookup.1 in
          next (union (shape (tree_of x)) (shape (tree_of other))) left (unions_more items parts i x other c.loop-at-test.true c.input-item.is short there) c.loop-at.invariant
          (ap (λ q. tree_of q.0) w.part-is ∙ w.in_ok-unite-in-Some.ensures.tree) (ap (λ q. q.1) w.part-is ∙ w.in_ok-unite-in-Some.ensures.placed) c.in_ok-push-in-Node-Node.ensures.ok
      | in-None+in_ok-part-in-None w ↦
          let past : length parts ≤ i = subst (λ us. length us ≤ i) c.as_slice.ensures w.in-None.ensures.lookup.3 in
          next (shape (tree_of x)) left (unions_alone items parts i x c.loop-at-test.true c.input-item.is past) c.loop-at.invariant
          (ap (λ q. tree_of q.0) w.part-is ∙ w.in_ok-part-in-None.ensures.tree)
          (ap (λ q. q.1) w.part-is ∙ w.in_ok-part-in-None.ensures.placed ∙ ap (λ m. c.loop-at.now + m) (sym (leaf_count-shape (tree_of x)))) c.in_ok-push-in-Node-Node.ensures.ok
    ]

pub returns-in-Leaf-default-clause-placed : goal.returns-in-Leaf-default-clause-placed
returns-in-Leaf-default-clause-placed t c =
    subst (λ n. IfOk c.copy_numbered.result (λ made. made.1 ≡ c.args.placed + n)) (count_first c.args.host.now c.args.guest.now c.in-Leaf-default.field-0-0 c.in-Leaf-default.is-0) c.copy_numbered.ensures.placed

pub returns-in_default-Leaf-clause-placed : goal.returns-in_default-Leaf-clause-placed
returns-in_default-Leaf-clause-placed t c =
    subst (λ n. IfOk c.copy_numbered-in_default-Leaf.result (λ made. made.1 ≡ c.args.placed + n)) (count_second c.args.host.now c.args.guest.now c.in_default-Leaf.field-0-1 c.in_default-Leaf.is-1) c.copy_numbered-in_default-Leaf.ensures.placed

pub returns-after-loop-at : goal.returns-after-loop-at
returns-after-loop-at t c =
    let items = c.as_slice-input-items.result.now in
    let parts = c.in-Node-Node.parts in
    let whole = row_end (slice_index c.args.numbers.now) c.args.placed (union_row (shape_row (rows items)) (shape_row (rows parts))) c.loop-at.made c.loop-at.now c.in-Node-Node.label
    (union_row (shapes_from c.loop-at.at items) (shapes_from c.loop-at.at parts)) (union (shape (tree_of c.args.host.now)) (shape (tree_of c.args.guest.now))) (unions_none items parts c.loop-at.at c.loop-at-test.false)
    (union_nodes c.args.host.now c.args.guest.now c.in-Node-Node.label c.in-Node-Node.field-0-1 c.in-Node-Node.inputs items parts c.in-Node-Node.is-0 c.as_slice-input-items.ensures c.in-Node-Node.is-1) c.loop-at.invariant in
    record { placed = whole.1; tree = whole.0 }
