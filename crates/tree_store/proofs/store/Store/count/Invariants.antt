use Rattle.std.proofs.Common.{◌≡◌, take}
use Rattle.std.specs.List.{sum_by}
use Rattle.labelled_trees.specs.Leaves.{leaf_count}
use Rattle.tree_store.specs.Stores.{tree_at}
use Rattle.tree_store.proofs.store.Store.count.Given as goal

abbrev pub invariant-loop-input : goal.invariant-loop-input
invariant-loop-input l = l.leaves ≡ sum_by (λ i. leaf_count (tree_at l.self i)) (take l.input-index l.inputs)
