use Rattle.std.proofs.Common.{ℕ, ◌<◌}
use Rattle.tree_divisors.specs.Finding.{HasNoPlace}
use Rattle.division.specs.Bases.{lead_at}
use Rattle.division.proofs.basis.Basis.divider.Given as goal

abbrev pub invariant-loop-at : goal.invariant-loop-at
invariant-loop-at g l = (i : ℕ) → i < l.at → HasNoPlace (lead_at l.shelf l.elements i) l.tree
