use Rattle.std.proofs.Common.{arith, ◌≤◌, ◌<◌, ◌-◌, get_or}
use Rattle.row_sweeps.proofs.TailsThatFall.{tail_first, tail_next, tail_whole}
use Rattle.reduction_rows.proofs.sweeps.is_falling_tail.Goals as goal

pub loop-i-init : goal.loop-i-init
loop-i-init c = tail_first (c.args.prime - 1) c.args.at c.args.coefs.now c.args.positions.now

pub loop-i-preserved : goal.loop-i-preserved
loop-i-preserved c =
    let lower : get_or c.args.positions.now c.loop-i.i 0 < c.loop-i.last = omega arith in
    let positive : 0 < get_or c.args.coefs.now c.loop-i.i 0 = omega arith in
    let residue : get_or c.args.coefs.now c.loop-i.i 0 ≤ c.args.prime - 1 = omega arith in
    tail_next (c.args.prime - 1) c.args.at c.loop-i.last c.loop-i.i c.args.coefs.now c.args.positions.now c.requires.lengths c.loop-i-test.true c.loop-i.invariant lower positive residue

pub returns : goal.returns
returns c = record { tail = λ t. tail_whole (c.args.prime - 1) c.args.at c.loop-i.last c.loop-i.i c.args.coefs.now c.args.positions.now c.requires.lengths c.loop-i-test.false c.loop-i.invariant }
