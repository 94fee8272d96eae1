use Rattle.std.proofs.Common.{◌≡◌, ◌+◌, ◌<◌, ◌∙◌, ap, arith, refl}
use Rattle.shuffle_insertions.specs.ShuffleTrees.{least}
use Rattle.division.proofs.LaidParts.{rise_first, rise_more, part_read, no_rise}
use Rattle.division.specs.Parts.{part_at}
use Rattle.division.proofs.laying.rises.Goals as goal

pub loop-at-init : goal.loop-at-init
loop-at-init c = rise_first c.args.store.now c.args.parts.now c.least_leaf-last.result
    (c.least_leaf-last.ensures.least ∙ ap least (part_read c.args.store.now c.args.parts.now 1 c.index-parts-1.result (omega arith) c.index-parts-1.is))

pub returns-then-next-last : goal.returns-then-next-last
returns-then-next-last c =
    let within : c.loop-at.at < c.args.arity + 1 = omega arith in
    let next : c.least_leaf-next.result ≡ least (part_at c.args.store.now c.args.parts.now c.loop-at.at)
    = c.least_leaf-next.ensures.least ∙ ap least (part_read c.args.store.now c.args.parts.now c.loop-at.at c.index-parts-at.result (omega arith) c.index-parts-at.is) in
    record {
      rises = (
        λ f. absurd (cc f),
        λ h. absurd (no_rise c.args.store.now c.args.parts.now c.args.arity c.loop-at.at c.loop-at.last c.least_leaf-next.result c.loop-at.invariant next c.if-next-last.true (omega arith) (omega arith) h),
      );
    }

pub loop-at-preserved : goal.loop-at-preserved
loop-at-preserved c = rise_more c.args.store.now c.args.parts.now c.loop-at.at c.loop-at.last c.least_leaf-next.result c.loop-at.invariant
    (c.least_leaf-next.ensures.least ∙ ap least (part_read c.args.store.now c.args.parts.now c.loop-at.at c.index-parts-at.result (omega arith) c.index-parts-at.is))
    c.if-next-last.false

pub returns : goal.returns
returns c = record { rises = (λ _ i j p lt le. c.loop-at.invariant.rise i j p lt (omega (arith, le)), λ _. refl) }
