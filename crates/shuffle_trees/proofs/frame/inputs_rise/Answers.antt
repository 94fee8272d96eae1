use Rattle.std.proofs.Common.{arith, refl}
use Rattle.shuffle_trees.proofs.Vertices.{rises_of_row}
use Rattle.shuffle_trees.proofs.Inputs.{next_rises, all_rise}
use Rattle.shuffle_trees.proofs.frame.inputs_rise.Goals as goal

pub returns-then-from-floor : goal.returns-then-from-floor
returns-then-from-floor c = (
  λ e. absurd cc,
  λ h.
      let items = c.args.inputs.now in
      let k = ((next_rises c.loop-input.floor c.loop-input.input-index items c.input-item.result c.loop-input-test.true c.input-item.is).0 (c.loop-input.invariant.rest_of (rises_of_row items h))).1 in
      absurd (omega (arith, k, c.least-least.ensures.least, c.from.ensures, c.if-from-floor.true)),
)

pub returns : goal.returns
returns c = (λ e. all_rise c.loop-input.floor c.loop-input.input-index c.args.inputs.now c.loop-input-test.false c.loop-input.invariant.whole_of, λ h. refl)
