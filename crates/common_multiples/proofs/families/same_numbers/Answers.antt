use Rattle.std.proofs.Common.{◌≢◌, ◌<◌, length, refl, arith, get_or-set_other, get_or-set_same, below_more, ◌∙◌}
use Rattle.std.proofs.Math.ListN.{length-set}
use Rattle.common_multiples.proofs.families.same_numbers.Goals as goal

pub loop-i-preserved : goal.loop-i-preserved
loop-i-preserved c = (
  length-set c.loop-i.numbers c.loop-i.i c.loop-i.i ∙ c.loop-i.invariant.0,
  below_more _ _
      (λ k h. let ne : k ≢ c.loop-i.i = omega arith in rw get_or-set_other (c.loop-i.invariant.1 k h))
      (let long = c.loop-i.invariant.0 in let lt : c.loop-i.i < length c.loop-i.numbers = omega (arith, long, c.loop-i-test.true) in rw get_or-set_same refl),
)
