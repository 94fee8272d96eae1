use Rattle.row_sweeps.specs.Terms.{pairs}
use Rattle.division.proofs.GrownCones.{cone_grows}
use Rattle.division.proofs.growing.add_element.Goals as goal

pub returns-clause-grown : goal.returns-clause-grown
returns-clause-grown c =
    cone_grows c.requires.cone.0 c.args.cone.now c.add_terms.new.self c.args.position (pairs c.args.tail.now) c.requires.cone.1 c.requires.position c.in_ok-add_terms.ensures.added c.add_terms.ensures.prime
