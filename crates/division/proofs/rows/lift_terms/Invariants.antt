use Rattle.std.proofs.Common.{◌≡◌, take}
use Rattle.modular_sums.specs.Sums.{moved}
use Rattle.shuffle_sums.specs.Sums.{pairs as ids_of}
use Rattle.row_sweeps.specs.Terms.{pairs}
use Rattle.division.specs.Rows.{id_at}
use Rattle.division.proofs.rows.lift_terms.Given as goal

abbrev pub invariant-loop-term : goal.invariant-loop-term
invariant-loop-term l = ids_of l.terms ≡ moved (id_at l.cone) (pairs (take l.term-index l.placed))
