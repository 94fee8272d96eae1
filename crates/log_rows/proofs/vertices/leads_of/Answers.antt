use Rattle.std.proofs.Common.{◌∷◌, []}
use Rattle.std.specs.List.{All}
use Rattle.std.proofs.lemmas.List.Elements.{All-from_recursion}
use Rattle.normal_listing.specs.Vertices.{IsShuffleLead}
use Rattle.log_rows.proofs.vertices.leads_of.Goals as goal

pub returns-clause-leads : goal.returns-clause-leads
returns-clause-leads c = λ trees has.
    rw (c.in_ok-push-2.ensures.items, c.in_ok-push.ensures.items, c.new-leads.ensures.items)
    (All-from_recursion (All (IsShuffleLead trees)) (c.in_ok-own_leads.field-0 ∷ c.in_ok-own_leads-2.field-0 ∷ []) (c.in_ok-own_leads.ensures.leads trees has, (c.in_ok-own_leads-2.ensures.leads trees has, tt)))
