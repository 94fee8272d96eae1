use Rattle.std.proofs.Common.{◌≡◌, ◌+◌, ◌-◌, ◌*◌, ◌/◌, ◌%◌, ◌<◌, arith}
use Rattle.std.proofs.lemmas.Nat.{div-add-mod', mod_below}
use Rattle.prime_field.proofs.Inverses.{leaves_some, step_down, step_up}
use Rattle.prime_field.proofs.Primes.{field_prime}
use Rattle.prime_field.proofs.Field.inv.Goals as goal

pub loop-rest-preserved-then-remainder-rest : goal.loop-rest-preserved-then-remainder-rest
loop-rest-preserved-then-remainder-rest c =
    let p = c.prime-prime.result in
    let rest = c.loop-rest.rest in
    let before = c.loop-rest.invariant in
    let opposite = rw (← c.prime-prime.ensures.value) at c.neg.ensures.negative in
    let product = rw (← c.prime-prime.ensures.value) at c.mul-inverse.ensures.product in
    let split : p / rest * rest + p % rest ≡ p = div-add-mod' p rest in
    let smaller : p % rest < rest = mod_below p rest before.some in
    record {
      some = leaves_some p rest (field_prime p c.prime-prime.ensures.listed) (omega arith) before.below;
      below = omega arith;
      residue = omega arith;
      product = step_down p c.args.a c.loop-rest.inverse rest (p / rest) c.neg.result (p % rest) c.mul-inverse.result
          (omega arith) before.product opposite split product;
    }

pub loop-rest-preserved : goal.loop-rest-preserved
loop-rest-preserved c =
    let p = c.prime-prime.result in
    let rest = c.loop-rest.rest in
    let before = c.loop-rest.invariant in
    let product = rw (← c.prime-prime.ensures.value) at c.mul-inverse-else-remainder-rest.ensures.product in
    let split : p / rest * rest + p % rest ≡ p = div-add-mod' p rest in
    let smaller : p % rest < rest = mod_below p rest before.some in
    record {
      some = omega arith;
      below = omega arith;
      residue = omega arith;
      product = step_up p c.args.a c.loop-rest.inverse rest (p / rest) (rest - p % rest) c.mul-inverse-else-remainder-rest.result
          (omega arith) before.product (omega arith) product;
    }
