use Rattle.call_rows.proofs.elements.can_expand.Goals as goal

pub returns-then-relations_fit-clause-rels : goal.returns-then-relations_fit-clause-rels
returns-then-relations_fit-clause-rels c = λ _. c.all_fit-relations_fit.ensures c.if-relations_fit.true.1
