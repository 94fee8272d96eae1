use Rattle.std.proofs.Common.{ap, arith}
use Rattle.labelled_trees.specs.Meaning.{tree_of}
use Rattle.labelled_trees.specs.Leaves.{leaf_count}
use Rattle.shuffle_trees.proofs.Counts.{few_leaves}
use Rattle.path_orders.proofs.WordLists.{length-leaves}
use Rattle.path_orders.proofs.orders.by_rows.Goals as goal

pub compare_rows-requires-clause-one : goal.compare_rows-requires-clause-one
compare_rows-requires-clause-one c =
    let few = few_leaves c.args.a.now c.shape.ensures.valid in let many = length-leaves (tree_of c.shape.result.now) in let same = ap leaf_count c.shape.ensures.shape in omega (arith, few, many, same)

pub compare_rows-requires-clause-other : goal.compare_rows-requires-clause-other
compare_rows-requires-clause-other c =
    let few = few_leaves c.args.b.now c.shape-2.ensures.valid in let many = length-leaves (tree_of c.shape-2.result.now) in let same = ap leaf_count c.shape-2.ensures.shape in omega (arith, few, many, same)
