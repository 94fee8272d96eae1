use Rattle.std.proofs.Common.{◌≡◌, ◌<◌, ℕ, get_or, Some, slice_get}
use Rattle.division.proofs.kept.divided_input.Given as goal

abbrev pub invariant-loop-at : goal.invariant-loop-at
invariant-loop-at l = (j : ℕ) → j < l.at → slice_get l.found (get_or l.inputs j 0) ≡ Some (Some l.element) → ⊥
