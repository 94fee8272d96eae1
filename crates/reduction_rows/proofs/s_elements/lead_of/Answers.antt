use Rattle.std.proofs.Common.{◌≡◌, ◌<◌, ap, ◌∙◌, subst, arith, length}
use Rattle.std.proofs.lemmas.Bool.Decides.{nat_tests}
use Rattle.shuffle_places.specs.Places.{IsPlace}
use Rattle.tree_store.specs.Stores.{tree_at}
use Rattle.reduction_rows.proofs.LeadingTerms.{first_leads}
use Rattle.reduction_rows.proofs.s_elements.lead_of.Goals as goal

pub returns-in_ok-tree_of-in-len1-up-clause-lead : goal.returns-in_ok-tree_of-in-len1-up-clause-lead
returns-in_ok-tree_of-in-len1-up-clause-lead g c t place at =
    let x = c.first-item.result in
    let some : 0 < length c.terms.result.now = omega (arith, c.in-len1-up.len_at_least) in
    let one : x.coef ≡ 1 = grind (arith, nat_tests) in
    let tree = c.in_ok-tree_of-in-len1-up.ensures.tree ∙ ap (λ ts. tree_at ts x.tree) c.store.ensures.store in
    first_leads c.args.shelf.now t place c.args.sum.now c.terms.result.now x c.terms.ensures.terms some c.first-item.is one (subst (IsPlace t place) tree at)
