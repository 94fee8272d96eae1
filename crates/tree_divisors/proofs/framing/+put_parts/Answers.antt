use Rattle.std.proofs.Common.{◌+◌, ◌∙◌, ap, sym}
use Rattle.std.specs.Prelude.{slice_index}
use Rattle.labelled_trees.specs.Meaning.{tree_of}
use Rattle.labelled_trees.specs.Trees.{leaves, vertices}
use Rattle.labelled_trees.proofs.ProgramTrees.{tree_of-leaf}
use Rattle.shuffle_insertions.specs.ShuffleTrees.{least}
use Rattle.shuffle_places.specs.Places.{cut}
use Rattle.tree_divisors.specs.Cutting.{has_marks}
use Rattle.tree_divisors.specs.Framing.{lent_trees, put_by_rank}
use Rattle.tree_divisors.proofs.FrameParts.{parts_of_leaf, parts_unmarked, put_alone, put_next}
use Rattle.tree_divisors.proofs.framing.+put_parts.Goals as goal

pub returns-in-Leaf-clause-slots : goal.returns-in-Leaf-clause-slots
returns-in-Leaf-clause-slots t c =
    put_alone c.args.ranks.now c.args.slots.now (slice_index c.args.ranks.now c.in-Leaf.number) c.args.tree (leaves (cut (has_marks c.args.marks.now) c.args.from (tree_of c.args.tree.now)))
    (parts_of_leaf c.args.marks.now c.args.from c.in-Leaf.number c.args.tree.now c.in-Leaf.is)
    (sym (ap (λ u. slice_index c.args.ranks.now (least u)) (ap tree_of c.in-Leaf.is ∙ tree_of-leaf c.in-Leaf.number)))

pub returns-then-marks-from-eq0-clause-slots : goal.returns-then-marks-from-eq0-clause-slots
returns-then-marks-from-eq0-clause-slots t c =
    put_alone c.args.ranks.now c.args.slots.now (slice_index c.args.ranks.now c.first_leaf.result) c.args.tree (leaves (cut (has_marks c.args.marks.now) c.args.from (tree_of c.args.tree.now)))
    (parts_unmarked c.args.marks.now c.args.from (tree_of c.args.tree.now) c.if-marks-from-eq0.true)
    (ap (slice_index c.args.ranks.now) c.first_leaf.ensures)

pub loop-input-preserved : goal.loop-input-preserved
loop-input-preserved t c =
    put_next (has_marks c.args.marks.now) c.args.ranks.now (lent_trees c.loop-input.slots) (lent_trees c.put_parts-next.new.slots)
    (put_by_rank c.args.ranks.now (lent_trees c.args.slots.now) (leaves (cut (has_marks c.args.marks.now) c.args.from (tree_of c.args.tree.now))))
    c.loop-input.next c.put_parts-next.result (c.args.from + vertices (tree_of c.args.tree.now)) c.as_slice-input-items.result.now c.loop-input.input-index c.input-item.result
    c.loop-input-test.true c.input-item.is c.loop-input.invariant c.put_parts-next.ensures.next c.put_parts-next.ensures.slots
