use Rattle.std.proofs.Common.{◌≡◌, ◌∷◌, take}
use Rattle.shuffle_trees.proofs.listing.row_with.Given as goal

abbrev pub invariant-loop-other : goal.invariant-loop-other
invariant-loop-other l = l.row ≡ l.first ∷ take l.other-index l.others
