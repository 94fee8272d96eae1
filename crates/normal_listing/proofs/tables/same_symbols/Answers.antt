use Rattle.std.proofs.Common.{◌≡◌, ◌≢◌, ℕ, ◌+◌, ◌<◌, length, refl, arith, get_or-set_other, get_or-set_same, below_more, ◌∙◌}
use Rattle.std.proofs.Math.ListN.{length-set}
use Rattle.normal_listing.proofs.tables.same_symbols.Goals as goal

pub loop-s-preserved : goal.loop-s-preserved
loop-s-preserved c = (
  length-set c.loop-s.symbols c.loop-s.s c.loop-s.s ∙ c.loop-s.invariant.0,
  below_more _ _
      (λ k h. let ne : k ≢ c.loop-s.s = omega arith in rw get_or-set_other (c.loop-s.invariant.1 k h))
      (let long = c.loop-s.invariant.0 in let lt : c.loop-s.s < length c.loop-s.symbols = omega (arith, long, c.loop-s-test.true) in rw get_or-set_same refl),
)
