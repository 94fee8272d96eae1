use Rattle.std.proofs.Common.{◌∙◌, length, arith}
use Rattle.shuffle_insertions.specs.Counting.{trees}
use Rattle.shuffle_trees.specs.LabelLists.{arity_in}
use Rattle.shuffle_trees.specs.Capped.{capped}
use Rattle.shuffle_trees.proofs.Arities.{are_labels}
use Rattle.shuffle_trees.proofs.CappedCounts.{written_next, trees_first, trees_next}
use Rattle.shuffle_trees.proofs.counting.count_trees.Goals as goal

pub loop-leaves-init : goal.loop-leaves-init
loop-leaves-init c = trees_first (length c.args.labels.now) (arity_in c.args.labels.now) (are_labels c.args.labels.now c.len-count.ensures.few)

pub loop-leaves-preserved : goal.loop-leaves-preserved
loop-leaves-preserved c m le =
    let labels = c.args.labels.now in
    written_next c.loop-leaves.table c.loop-leaves.leaves c.count_vertices.result m (λ k. capped (trees (length labels) (arity_in labels) k))
    (omega (arith, c.loop-leaves-test.array_long, c.loop-leaves-test.true, c.requires.arity)) (λ l. c.loop-leaves.invariant m l)
    (c.count_vertices.ensures ∙ trees_next (length labels) (arity_in labels) (are_labels labels c.len-count.ensures.few) c.loop-leaves.table c.loop-leaves.leaves c.loop-leaves.auto.leaves c.loop-leaves.invariant) le
