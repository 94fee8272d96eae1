use Rattle.std.proofs.Common.{◌≡◌, take}
use Rattle.identity_queries.proofs.renumbering.copies.Given as goal

abbrev pub invariant-loop-tree : goal.invariant-loop-tree
invariant-loop-tree l = l.made ≡ take l.tree-index l.trees
