use Rattle.std.proofs.Common.{◌≡◌, ◌+◌, ◌*◌, suc, ap₂, arith}
use Rattle.shuffle_insertions.specs.Counting as spec
use Rattle.shuffle_transfer.proofs.LabelLists.{factorial_most}
use Rattle.shuffle_sums.proofs.counting.factorial.Goals as goal

pub overflow_mul-product : goal.overflow_mul-product
overflow_mul-product c =
    let f = c.loop-factor.factor in
    let most = factorial_most (suc f) (omega (arith, c.loop-factor-test.true, c.requires)) in
    let next : spec.factorial f * (f + 1) ≡ spec.factorial (suc f) = omega arith in
    let product : c.loop-factor.product * (c.from.result + 1) ≡ spec.factorial f * (f + 1) = ap₂ (λ a b. a * (b + 1)) c.loop-factor.invariant.product c.from.ensures in
    omega (arith, most, next, product)
