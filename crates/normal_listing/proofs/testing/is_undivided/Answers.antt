use Rattle.std.proofs.Common.{rules, sym, subst, refl}
use Rattle.division.specs.Parts.{part_at}
use Rattle.normal_listing.specs.Vertices.{IsShuffleLead}
use Rattle.normal_listing.proofs.Tested.{clear_of, not_clear, divided, testing_more}
use Rattle.normal_listing.proofs.testing.is_undivided.Goals as goal
use Rattle.normal_listing.proofs.testing.is_undivided.Goals.{After-lead-item}

tried : (c : After-lead-item) → IsShuffleLead c.args.store.now c.lead-item.result
tried c = subst (IsShuffleLead c.args.store.now) (sym c.lead-item.is) (c.requires.leads c.loop-lead.lead-index c.lead-item.result c.loop-lead-test.true)

pub returns-then-divides_inputs-clause-passes : goal.returns-then-divides_inputs-clause-passes
returns-then-divides_inputs-clause-passes c =
    let lead = tried (goal.at.returns-then-divides_inputs-clause-passes c).After-lead-item in
    sym (divided c.args.store.now c.args.leads.now c.args.label c.args.inputs.now c.loop-lead.lead-index c.lead-item.result c.loop-lead-test.true c.lead-item.is c.args.parts.now c.loop-lead.parts c.loop-lead.invariant
    (not_clear c.args.store.now c.args.label c.args.inputs.now c.requires.among c.lead-item.result lead (part_at c.args.store.now c.divides_inputs.new.parts) (c.if-divides_inputs.ensures.divides refl)))

pub loop-lead-preserved : goal.loop-lead-preserved
loop-lead-preserved c =
    let lead = tried (goal.at.loop-lead-preserved c).After-lead-item in
    testing_more c.args.store.now c.args.leads.now c.args.label c.args.inputs.now c.loop-lead.lead-index c.lead-item.result c.loop-lead-test.true c.lead-item.is c.args.parts.now c.loop-lead.parts c.divides_inputs.new.parts c.loop-lead.invariant
    (clear_of c.args.store.now c.args.label c.args.inputs.now c.requires.among c.lead-item.result lead (c.if-divides_inputs.ensures.not refl)) (search rules)
