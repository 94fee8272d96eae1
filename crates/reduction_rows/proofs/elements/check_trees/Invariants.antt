use Rattle.std.proofs.Common.{take}
use Rattle.std.specs.List.{All}
use Rattle.shuffle_insertions.specs.ShuffleTrees.{IsShuffle}
use Rattle.tree_store.specs.Stores.{tree_at}
use Rattle.reduction_rows.proofs.elements.check_trees.Given as goal

abbrev pub invariant-loop-id : goal.invariant-loop-id
invariant-loop-id l = All (λ id. IsShuffle l.arity (tree_at l.store id)) (take l.id-index l.ids)
