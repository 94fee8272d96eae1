use Rattle.std.specs.Prelude.{slice_index}
use Rattle.std.proofs.Common.{◌<◌, ◌+◌, get_or, length, ap, arith, refl}
use Rattle.division.proofs.Ruling.{any_default}
use Rattle.division.proofs.Rowing.{filled_none, fill_more, placed_has}
use Rattle.division.proofs.rows.fill_row.Goals as goal

pub loop-term-init : goal.loop-term-init
loop-term-init c = filled_none c.args.row.now c.args.placed.now c.requires.zeros

pub bounds-row-position : goal.bounds-row-position
bounds-row-position c = (let b : (get_or c.args.placed.now c.loop-term.term-index (record { coef = 0; position = 0 })).position < length c.args.row.now = placed_has (λ t. t < length c.args.row.now) c.args.placed.now c.loop-term.term-index (get_or c.args.placed.now c.loop-term.term-index (record { coef = 0; position = 0 })) c.requires.within c.loop-term-test.true (any_default c.args.placed.now c.loop-term.term-index (record { coef = 0; position = 0 }) (get_or c.args.placed.now c.loop-term.term-index (record { coef = 0; position = 0 })) c.loop-term-test.true) in let r = c.loop-term.auto.row in omega (arith, b, r))

pub bounds-row-position-in-loop-term : goal.bounds-row-position-in-loop-term
bounds-row-position-in-loop-term c = (let b : (get_or c.args.placed.now c.loop-term.term-index (record { coef = 0; position = 0 })).position < length c.args.row.now = placed_has (λ t. t < length c.args.row.now) c.args.placed.now c.loop-term.term-index (get_or c.args.placed.now c.loop-term.term-index (record { coef = 0; position = 0 })) c.requires.within c.loop-term-test.true (any_default c.args.placed.now c.loop-term.term-index (record { coef = 0; position = 0 }) (get_or c.args.placed.now c.loop-term.term-index (record { coef = 0; position = 0 })) c.loop-term-test.true) in let r = c.loop-term.auto.row in omega (arith, b, r))

pub loop-term-preserved : goal.loop-term-preserved
loop-term-preserved c =
    let v = c.widened.ensures.value in
    let s = c.widened.ensures.small in
    fill_more (length c.args.row.now) c.loop-term.row c.args.placed.now c.loop-term.term-index (get_or c.args.placed.now c.loop-term.term-index (record { coef = 0; position = 0 })) (get_or c.args.placed.now c.loop-term.term-index (record { coef = 0; position = 0 })).position (slice_index c.loop-term.row (get_or c.args.placed.now c.loop-term.term-index (record { coef = 0; position = 0 })).position + c.widened.result) c.loop-term.invariant c.loop-term-test.true (any_default c.args.placed.now c.loop-term.term-index (record { coef = 0; position = 0 }) (get_or c.args.placed.now c.loop-term.term-index (record { coef = 0; position = 0 })) c.loop-term-test.true)
    (omega (arith, v, s)) refl (let b : (get_or c.args.placed.now c.loop-term.term-index (record { coef = 0; position = 0 })).position < length c.args.row.now = placed_has (λ t. t < length c.args.row.now) c.args.placed.now c.loop-term.term-index (get_or c.args.placed.now c.loop-term.term-index (record { coef = 0; position = 0 })) c.requires.within c.loop-term-test.true (any_default c.args.placed.now c.loop-term.term-index (record { coef = 0; position = 0 }) (get_or c.args.placed.now c.loop-term.term-index (record { coef = 0; position = 0 })) c.loop-term-test.true) in let r = c.loop-term.auto.row in omega (arith, b, r)) (ap (λ k. slice_index c.loop-term.row (get_or c.args.placed.now c.loop-term.term-index (record { coef = 0; position = 0 })).position + k) v)
