use Rattle.std.proofs.Common.{◌+◌, ◌<◌, refl, arith, rules, ◌∙◌, length-set}
use Rattle.std.specs.Prelude.{slice_index}
use Rattle.common_multiples.proofs.Inverses.{inverse_start, inverse_next}
use Rattle.common_multiples.proofs.chains.places_in.Goals as goal

pub loop-at-init : goal.loop-at-init
loop-at-init c = record { long = refl; places = inverse_start (slice_index c.args.chain.now) }

pub loop-at-preserved : goal.loop-at-preserved
loop-at-preserved c =
    let long = c.loop-at.invariant.long in
    let fits : slice_index c.args.chain.now (c.loop-at.at + 1) < 256 = search rules in
    record {
      long = length-set c.loop-at.places (slice_index c.args.chain.now (c.loop-at.at + 1)) (c.loop-at.at + 1) ∙ long;
      places = inverse_next c.args.length (slice_index c.args.chain.now) c.loop-at.places c.loop-at.at c.requires.once c.loop-at-test.true (omega (arith, fits, long)) c.loop-at.invariant.places;
    }

pub returns : goal.returns
returns c = record {
  places = record {
    each = λ i p le. c.loop-at.invariant.places.each i p (omega (arith, le, c.loop-at-test.false));
    only = λ z h. let k = c.loop-at.invariant.places.only z h in (omega (arith, k.0, c.loop-at.auto.at-end), k.1);
  };
}
