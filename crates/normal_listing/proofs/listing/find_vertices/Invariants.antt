use Rattle.normal_listing.proofs.Labelled.{IsFinding}
use Rattle.normal_listing.proofs.listing.find_vertices.Given as goal

abbrev pub invariant-loop-label : goal.invariant-loop-label
invariant-loop-label l = IsFinding l.store l.labels l.leads l.tables l.set l.chosen l.fn.parts l.parts l.fn.found l.found l.label
