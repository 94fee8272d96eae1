use Rattle.division.specs.Rows.{IsInCone}
use Rattle.division.proofs.Rowing.{place_step, term_has}
use Rattle.division.proofs.rows.place_terms.Goals as goal

pub position_of-requires-clause-there : goal.position_of-requires-clause-there
position_of-requires-clause-there c = term_has (IsInCone c.args.cone.now) c.args.terms.now c.loop-term.term-index c.term-item.result c.requires.there c.loop-term-test.true c.term-item.is

pub loop-term-preserved : goal.loop-term-preserved
loop-term-preserved c =
    place_step c.args.cone.now c.args.terms.now c.loop-term.placed.items c.push.new.self.items c.loop-term.term-index c.term-item.result c.position_of.result c.loop-term.invariant c.loop-term-test.true c.term-item.is c.in_ok-push.ensures.items
    c.position_of.ensures.id c.position_of.ensures.within c.position_of.ensures.coef
