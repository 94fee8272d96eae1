use Rattle.log_rows.proofs.FoundLeaves.{is_lead}
use Rattle.log_rows.proofs.vertices.write_vertex.Goals as goal

pub write_labelled-requires-clause-leaves : goal.write_labelled-requires-clause-leaves
write_labelled-requires-clause-leaves c = record {
  id = c.args.id;
  within = c.requires.held;
  store = c.corolla_of.ensures.store;
  corolla = c.in_ok-corolla.corolla;
  is = c.in_ok-corolla.ensures.corolla;
  leaves = c.in_ok-leaves.ensures.leaves;
}

pub write_labelled-requires-clause-lead : goal.write_labelled-requires-clause-lead
write_labelled-requires-clause-lead c =
    is_lead c.args.store.now c.args.id c.in_ok-corolla.corolla c.in_ok-corolla.ensures.corolla c.requires.held c.args.lead c.requires.id c.requires.valid
