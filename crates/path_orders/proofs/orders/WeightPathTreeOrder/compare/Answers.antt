use Rattle.std.proofs.Common.{ap, arith}
use Rattle.labelled_trees.specs.Trees.{vertices}
use Rattle.shuffle_trees.proofs.Counts.{few_vertices}
use Rattle.path_orders.proofs.orders.WeightPathTreeOrder.compare.Goals as goal

pub weigh_tree-requires : goal.weigh_tree-requires
weigh_tree-requires c = let few = few_vertices c.args.a.now c.shape.ensures.valid in let same = ap vertices c.shape.ensures.shape in omega (arith, few, same)

pub weigh_tree-requires-2 : goal.weigh_tree-requires-2
weigh_tree-requires-2 c = let few = few_vertices c.args.b.now c.shape-2.ensures.valid in let same = ap vertices c.shape-2.ensures.shape in omega (arith, few, same)
