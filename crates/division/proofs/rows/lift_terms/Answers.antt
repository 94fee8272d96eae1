use Rattle.std.proofs.Common.{get_or, ◌<◌, length}
use Rattle.division.proofs.Ruling.{any_default}
use Rattle.division.proofs.Rowing.{lift_step, placed_has}
use Rattle.division.proofs.rows.lift_terms.Goals as goal

pub id_of-requires-clause-within : goal.id_of-requires-clause-within
id_of-requires-clause-within c = placed_has (λ t. t < length c.args.cone.now.ids) c.args.placed.now c.loop-term.term-index (get_or c.args.placed.now c.loop-term.term-index (record { coef = 0; position = 0 })) c.requires.within c.loop-term-test.true (any_default c.args.placed.now c.loop-term.term-index (record { coef = 0; position = 0 }) (get_or c.args.placed.now c.loop-term.term-index (record { coef = 0; position = 0 })) c.loop-term-test.true)

pub loop-term-preserved : goal.loop-term-preserved
loop-term-preserved c =
    lift_step c.args.cone.now c.args.placed.now c.loop-term.terms c.push.new.self c.loop-term.term-index (get_or c.args.placed.now c.loop-term.term-index (record { coef = 0; position = 0 })) c.id_of.result c.loop-term.invariant c.loop-term-test.true (any_default c.args.placed.now c.loop-term.term-index (record { coef = 0; position = 0 }) (get_or c.args.placed.now c.loop-term.term-index (record { coef = 0; position = 0 })) c.loop-term-test.true) c.in_ok-push.ensures.ok
    c.id_of.ensures.tree c.id_of.ensures.coef
