use Rattle.std.proofs.Common.{◌≡◌, take}
use Rattle.symmetric_sums.specs.Terms.{terms_of}
use Rattle.symmetric_sums.proofs.comparing.are_equal.Given as goal

abbrev pub invariant-loop-at : goal.invariant-loop-at
invariant-loop-at l = terms_of (take l.at l.one) ≡ terms_of (take l.at l.other)
