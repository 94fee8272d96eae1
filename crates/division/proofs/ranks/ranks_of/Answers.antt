use Rattle.std.proofs.Common.{rules, arith, ◌<◌}
use Rattle.std.specs.List.{range_with_len}
use Rattle.std.proofs.lemmas.List.FromFn.{length-range_with_len}
use Rattle.std.proofs.lemmas.List.Sorted.{length_permutation}
use Rattle.shuffle_sums.proofs.RisingBlocks.{position_within}
use Rattle.division.proofs.Ranking.{ranks_more, ranks_all}
use Rattle.division.proofs.ranks.ranks_of.Goals as goal

pub overflow_cast-position : goal.overflow_cast-position
overflow_cast-position c =
    let l = length_permutation (range_with_len 0 c.args.count) c.args.order.now c.requires.each in
    let r = length-range_with_len 0 c.args.count in
    let f = c.requires.few in
    let t = c.loop-position-test.true in
    let small : c.loop-position.position < 1073741824 = omega (arith, l, r, f, t) in
    search rules

pub index_mut-requires : goal.index_mut-requires
index_mut-requires c =
    let w = position_within c.args.count c.args.order.now c.loop-position.position c.requires.each c.loop-position-test.true in
    let m = c.loop-position.invariant.as_many in
    omega (arith, w, m, c.loop-position.ranks.ok.0)

pub loop-position-preserved : goal.loop-position-preserved
loop-position-preserved c = ranks_more c.args.order.now c.loop-position.ranks.items c.args.count c.loop-position.position c.requires.each c.loop-position-test.true c.loop-position.invariant

pub returns : goal.returns
returns c = record { ranks = ranks_all c.args.order.now c.loop-position.ranks.items c.args.count c.loop-position.position c.requires.each (let t = c.loop-position-test.false in omega (arith, t)) c.loop-position.invariant }
