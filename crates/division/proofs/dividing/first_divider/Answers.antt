use Rattle.division.proofs.FirstDividers.{group_candidates, at_root, in_inputs}
use Rattle.division.proofs.dividing.first_divider.Goals as goal

pub first_at_root-requires-clause-candidates : goal.first_at_root-requires-clause-candidates
first_at_root-requires-clause-candidates c =
    group_candidates c.args.store.now c.args.reducers.now c.args.found.now c.args.id c.in-Node.label c.in-Node.inputs.now c.node.ensures.store c.requires.reducers c.requires.found c.requires.id c.in-Node.ensures.root.0
    c.args.groups.now c.group.result.now c.requires.groups c.group.ensures.group

pub returns-in-Some : goal.returns-in-Some
returns-in-Some c = record {
  first = at_root c.args.store.now c.args.reducers.now c.args.found.now c.args.id c.in-Node.label c.in-Node.inputs.now c.node.ensures.store c.requires.reducers c.requires.found c.requires.id c.in-Node.ensures.root.0
      c.least_of_inputs-least.result c.bound_of-bound.result c.in-Some.element c.least_of_inputs-least.ensures.least c.bound_of-bound.ensures.bound c.in-Some.ensures.first;
}

pub returns-in-None : goal.returns-in-None
returns-in-None c = record {
  first = in_inputs c.args.store.now c.args.reducers.now c.args.found.now c.args.id c.in-Node.label c.in-Node.inputs.now c.node.ensures.store c.requires.reducers c.requires.found c.requires.id c.in-Node.ensures.root.0
      c.least_of_inputs-least.result c.bound_of-bound.result c.least_of_inputs-least.ensures.least c.bound_of-bound.ensures.bound c.in-None.ensures.first;
}
