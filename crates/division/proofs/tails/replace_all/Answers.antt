use Rattle.std.proofs.Common.{◌+◌, ◌∙◌, ap, sym, subst, take, Some}
use Rattle.division.specs.Insertions.{CanReplace, with_other}
use Rattle.shuffle_sums.specs.Shelves.{HasLeavesAmong}
use Rattle.division.proofs.MadeTrees.{IsMaking, belongs_later, grown_other, making_more}
use Rattle.division.proofs.tails.replace_all.Goals as goal
use Rattle.division.proofs.tails.replace_all.Goals.{After-other-item}

-- the next tree can stand there
next_can : (c : After-other-item) → CanReplace c.args.shelf.now c.args.host c.args.at c.other-item.result
next_can c = subst (CanReplace c.args.shelf.now c.args.host c.args.at) (sym c.other-item.is) (c.requires.can c.loop-other.other-index c.other-item.result c.loop-other-test.true)

pub replace_input-requires-clause-belongs : goal.replace_input-requires-clause-belongs
replace_input-requires-clause-belongs c =
    let can = next_can (goal.at.replace_input-requires-clause-belongs c).After-other-item in
    subst (HasLeavesAmong c.loop-other.shelf.labels c.loop-other.shelf.most)
    (sym (grown_other c.args.shelf.now.trees c.loop-other.shelf.trees c.args.host c.args.at c.other-item.result c.loop-other.invariant.keeps.trees c.requires.host can.low))
    (belongs_later c.args.shelf.now c.loop-other.shelf c.loop-other.invariant.keeps (with_other c.args.shelf.now.trees c.args.host c.args.at c.other-item.result) can.belongs)

pub loop-other-preserved : goal.loop-other-preserved
loop-other-preserved c =
    let can = next_can (goal.at.loop-other-preserved c).After-other-item in
    subst (IsMaking c.args.shelf.now c.replace_input.new.shelf (with_other c.args.shelf.now.trees c.args.host c.args.at) (take (c.loop-other.other-index + 1) c.args.others.now) c.args.out.now) (sym c.in_ok-push.ensures.ok)
    (making_more c.args.shelf.now c.loop-other.shelf c.replace_input.new.shelf (with_other c.args.shelf.now.trees c.args.host c.args.at) c.args.others.now c.args.out.now c.loop-other.out c.loop-other.other-index c.other-item.result c.in_ok-id.id
    c.loop-other.invariant c.loop-other-test.true c.other-item.is c.replace_input.ensures.keeps c.replace_input.ensures.keys c.replace_input.ensures.shelf
    (c.in_ok-id.ensures.found ∙ ap Some (grown_other c.args.shelf.now.trees c.loop-other.shelf.trees c.args.host c.args.at c.other-item.result c.loop-other.invariant.keeps.trees c.requires.host can.low)))
