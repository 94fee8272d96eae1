use Rattle.std.proofs.Common.{◌≡◌, take}
use Rattle.shuffle_sums.specs.Putting.{ArePut}
use Rattle.reduction_rows.proofs.stores.shelve_all.Given as goal

abbrev pub invariant-loop-tree : goal.invariant-loop-tree
invariant-loop-tree l = record { put : ArePut l.shelf.trees (take l.tree-index l.trees) l.ids.items; own : l.shelf.labels ≡ l.labels }
