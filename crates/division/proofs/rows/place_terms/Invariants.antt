use Rattle.std.proofs.Common.{take}
use Rattle.shuffle_sums.specs.Sums.{pairs as ids_of}
use Rattle.row_sweeps.specs.Terms.{pairs}
use Rattle.division.specs.Rows.{IsSumAtPlaces}
use Rattle.division.proofs.rows.place_terms.Given as goal

abbrev pub invariant-loop-term : goal.invariant-loop-term
invariant-loop-term l = IsSumAtPlaces l.cone (ids_of (take l.term-index l.terms)) (pairs l.placed.items)
