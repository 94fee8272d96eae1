-- The rank of a leaf among the leaves of a tree.
use Rattle.std.specs.Prelude.{ℕ, ◌+◌}
use Rattle.std.proofs.Common.{zero, suc}
use Rattle.labelled_trees.specs.Trees.{Tree, leaf, graft}
use Rattle.labelled_trees.specs.Leaves.{occurs}

-- how many leaves have a number below n
abbrev pub below : ℕ → Tree ℕ → ℕ
below zero t = 0
below (suc n) t = below n t + occurs n t

-- The standardised tree: each leaf has its rank, from 1, in place of its number.
abbrev pub standard : Tree ℕ → Tree ℕ
standard t = graft t (λ i. leaf (suc (below i t)))
