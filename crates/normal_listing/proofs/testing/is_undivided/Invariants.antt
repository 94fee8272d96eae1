use Rattle.normal_listing.proofs.Tested.{IsTesting}
use Rattle.normal_listing.proofs.testing.is_undivided.Given as goal

abbrev pub invariant-loop-lead : goal.invariant-loop-lead
invariant-loop-lead l = IsTesting l.store l.leads l.label l.inputs l.fn.parts l.parts l.lead-index
