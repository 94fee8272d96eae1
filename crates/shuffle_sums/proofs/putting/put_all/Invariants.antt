use Rattle.std.proofs.Common.{take}
use Rattle.shuffle_sums.specs.Putting.{ArePut, Keeps}
use Rattle.shuffle_sums.proofs.putting.put_all.Given as goal

abbrev pub invariant-loop-tree : goal.invariant-loop-tree
invariant-loop-tree l = record { put : ArePut l.store (take l.tree-index l.trees) l.ids.items; keeps : Keeps l.initial.store l.store }
