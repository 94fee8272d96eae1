use Rattle.std.proofs.Common.{◌*◌, ◌<◌}
use Rattle.prime_field.specs.Residues.{Congruent}
use Rattle.prime_field.proofs.Field.inv.Given as goal

abbrev pub invariant-loop-rest : goal.invariant-loop-rest
invariant-loop-rest l = record {
  some : 0 < l.rest;
  below : l.rest < l.prime;
  residue : l.inverse < l.prime;
  product : Congruent l.prime (l.a * l.inverse) l.rest;
}

abbrev pub decreases-loop-rest : goal.decreases-loop-rest
decreases-loop-rest l = l.rest
