use Rattle.call_rows.proofs.elements.end_expanded.Goals as goal

pub expanded_arity-requires : goal.expanded_arity-requires
expanded_arity-requires c = record {
  coef = c.can_expand.ensures.coef c.if-not-can_expand.false;
  rels = c.can_expand.ensures.rels c.if-not-can_expand.false;
  steps = c.can_expand.ensures.steps c.if-not-can_expand.false;
}

pub expand-requires : goal.expand-requires
expand-requires c = record {
  coef = c.can_expand.ensures.coef c.if-not-can_expand.false;
  rels = c.can_expand.ensures.rels c.if-not-can_expand.false;
  steps = c.can_expand.ensures.steps c.if-not-can_expand.false;
}
