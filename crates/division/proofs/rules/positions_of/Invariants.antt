use Rattle.std.specs.Prelude.{slice_index}
use Rattle.std.proofs.Common.{◌≡◌, map, take}
use Rattle.division.proofs.rules.positions_of.Given as goal

abbrev pub invariant-loop-place : goal.invariant-loop-place
invariant-loop-place l = l.out.items ≡ map (slice_index l.ranks) (take l.place-index l.places)
