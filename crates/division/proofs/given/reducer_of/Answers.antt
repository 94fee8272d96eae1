use Rattle.division.proofs.SumParts.{coefs_made, reducer_made}
use Rattle.division.proofs.given.reducer_of.Goals as goal

pub returns-clause-reducer : goal.returns-clause-reducer
returns-clause-reducer g c =
    reducer_made c.args.store.now c.args.sum.now c.terms.result.now c.first-item.result c.leaves.result c.in_ok-ids_of-in-len1-up.field-0
    c.terms.ensures.terms c.in-len1-up.len_at_least c.first-item.is c.leaves.ensures.leaves c.in_ok-ids_of-in-len1-up.ensures.ids

pub returns-clause-coefs : goal.returns-clause-coefs
returns-clause-coefs g c =
    coefs_made c.args.sum.now c.terms.result.now c.first-item.result c.in_ok-residues_of-in-len1-up.field-0 c.terms.ensures.terms c.in-len1-up.len_at_least c.first-item.is c.in_ok-residues_of-in-len1-up.ensures.residues
