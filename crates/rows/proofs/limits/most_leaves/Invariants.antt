use Rattle.std.proofs.Common.{◌-◌, length}
use Rattle.shuffle_insertions.specs.Counting.{HaveFewTrees}
use Rattle.shuffle_trees.specs.LabelLists.{arity_in}
use Rattle.rows.proofs.limits.most_leaves.Given as goal

abbrev pub invariant-loop-next : goal.invariant-loop-next
invariant-loop-next l = HaveFewTrees (length l.labels) (arity_in l.labels) (l.next - 1)
