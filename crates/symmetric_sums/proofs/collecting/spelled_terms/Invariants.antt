use Rattle.std.proofs.Common.{take}
use Rattle.symmetric_sums.specs.Collecting.{AreSpellings}
use Rattle.symmetric_sums.proofs.collecting.spelled_terms.Given as goal

abbrev pub invariant-loop-term : goal.invariant-loop-term
invariant-loop-term l = AreSpellings l.field l.table (take l.term-index l.terms) l.spellings.items
