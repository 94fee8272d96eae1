use Rattle.std.proofs.Common.{Some, arith, ap, sym, ◌∙◌}
use Rattle.std.proofs.lemmas.Option.{slice_get-get_or}
use Rattle.division.proofs.LabelGroups.{groups_all, groups_more}
use Rattle.division.proofs.given.groups_of.Goals as goal

pub lead_label-label-requires : goal.lead_label-label-requires
lead_label-label-requires c = record {
  reducer = c.requires.reducers c.loop-at.at c.index-reducers-at.result (slice_get-get_or c.args.reducers.now c.loop-at.at c.index-reducers-at.result c.loop-at-test.true ∙ ap Some (sym c.index-reducers-at.is));
}

pub loop-at-preserved : goal.loop-at-preserved
loop-at-preserved c =
    groups_more c.args.store.now c.args.reducers.now c.loop-at.groups.items c.enter_at.new.groups.items c.loop-at.at c.lead_label-label.result c.index-reducers-at.result c.loop-at.invariant
    c.in_ok-enter_at.ensures.entered
    (slice_get-get_or c.args.reducers.now c.loop-at.at c.index-reducers-at.result c.loop-at-test.true ∙ ap Some (sym c.index-reducers-at.is))
    c.lead_label-label.ensures.label

pub returns : goal.returns
returns c = record {
  groups = groups_all c.args.store.now c.args.reducers.now c.loop-at.groups.items c.loop-at.at (let a = c.loop-at-test.false in let b = c.loop-at.auto.at-end in omega (arith, a, b)) c.loop-at.invariant;
}
