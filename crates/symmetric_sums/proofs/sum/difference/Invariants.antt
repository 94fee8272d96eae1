use Rattle.std.proofs.Common.{◌≡◌, ◌++◌, take}
use Rattle.symmetric_sums.specs.Terms.{negated}
use Rattle.symmetric_sums.proofs.sum.difference.Given as goal

abbrev pub invariant-loop-term : goal.invariant-loop-term
invariant-loop-term l = l.terms ≡ l.one ++ negated l.field (take l.term-index l.other)
