use Rattle.std.proofs.Common.{ap, arith}
use Rattle.labelled_trees.specs.Trees.{vertices}
use Rattle.shuffle_trees.proofs.Counts.{few_vertices}
use Rattle.shuffle_trees.proofs.stree.vertex_count.Goals as goal

pub count_vertices-requires : goal.count_vertices-requires
count_vertices-requires c = let few = few_vertices c.args.tree.now c.shape.ensures.valid in let same = ap vertices c.shape.ensures.shape in omega (arith, few, same)

pub returns-clause-few : goal.returns-clause-few
returns-clause-few c = let few = few_vertices c.args.tree.now c.shape.ensures.valid in let same = ap vertices c.shape.ensures.shape in omega (arith, few, same, c.count_vertices.ensures)
