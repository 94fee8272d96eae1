use Rattle.std.proofs.Common.{◌≤◌, map, subst, sym}
use Rattle.labelled_trees.specs.Trees.{node, row}
use Rattle.labelled_trees.specs.Leaves.{leaf_count_row}
use Rattle.shuffle_trees.proofs.Counts.{few_leaves}
use Rattle.tree_store.specs.Stores.{tree_at}
use Rattle.tree_store.proofs.store.Store.vertex.Goals as goal

pub count-counts-requires-clause-few : goal.count-counts-requires-clause-few
count-counts-requires-clause-few c =
    subst (λ ids. leaf_count_row (row (map (tree_at c.args.self.now) ids)) ≤ 255) (sym c.as_slice.ensures)
    (few_leaves (node c.args.label (row (map (tree_at c.args.self.now) c.args.inputs.items))) c.requires.valid)
