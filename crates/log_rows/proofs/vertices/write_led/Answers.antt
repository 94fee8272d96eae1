use Rattle.std.proofs.Common.{sym, subst}
use Rattle.std.specs.List.{All}
use Rattle.normal_listing.specs.Vertices.{IsShuffleLead}
use Rattle.log_rows.proofs.vertices.write_led.Goals as goal

pub write_found-requires-clause-leads : goal.write_found-requires-clause-leads
write_found-requires-clause-leads c =
    let trees = c.args.store.now in
    subst (All (All (IsShuffleLead trees))) (sym c.deref.ensures.value) (c.in_ok-leads.ensures.leads trees c.requires.lead)
