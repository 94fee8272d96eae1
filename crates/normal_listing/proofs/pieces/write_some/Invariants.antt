use Rattle.normal_listing.proofs.Lines.{IsCarried}
use Rattle.normal_listing.proofs.pieces.write_some.Given as goal

abbrev pub invariant-loop-at : goal.invariant-loop-at
invariant-loop-at l = IsCarried l.table l.words l.at l.out.items l.fn.out.items
