use Rattle.std.proofs.Common.{◌≡◌}
use Rattle.shuffle_insertions.specs.Listing.{upto}
use Rattle.shuffle_passage.proofs.permuting.numbers_to.Given as goal

abbrev pub invariant-loop-below : goal.invariant-loop-below
invariant-loop-below l = l.numbers ≡ upto l.below
