use Rattle.std.proofs.Common.{length}
use Rattle.normal_listing.proofs.Fronts.{IsWriting}
use Rattle.normal_listing.proofs.writing.+write_front.Given as goal

abbrev pub decreases-write_front : goal.decreases-write_front
decreases-write_front l = length l.word

abbrev pub invariant-loop-at : goal.invariant-loop-at
invariant-loop-at l = IsWriting l.table l.fn.word l.left l.mark l._at l._at-end l.out.items l.fn.out.items
