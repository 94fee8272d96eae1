use Rattle.std.proofs.Common.{◌≡◌, length}
use Rattle.std.specs.Prelude.{slice_index}
use Rattle.common_multiples.proofs.Inverses.{IsInverseSoFar}
use Rattle.common_multiples.proofs.chains.places_in.Given as goal

abbrev pub invariant-loop-at : goal.invariant-loop-at
invariant-loop-at l = record { long : length l.places ≡ 256; places : IsInverseSoFar (slice_index l.chain) l.places l.at }
