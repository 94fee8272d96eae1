use Rattle.std.proofs.Common.{◌+◌, ◌∙◌, ap, sym, subst, take, Some}
use Rattle.division.specs.Parts.{built}
use Rattle.division.specs.Insertions.{CanBuild}
use Rattle.division.proofs.MadeTrees.{IsMaking, can_later, grown_built, making_more}
use Rattle.division.proofs.tails.build_all.Goals as goal
use Rattle.division.proofs.tails.build_all.Goals.{After-tree-item}

-- the next tree can be built
next_can : (c : After-tree-item) → CanBuild c.args.shelf.now c.args.parts.now c.tree-item.result
next_can c = subst (CanBuild c.args.shelf.now c.args.parts.now) (sym c.tree-item.is) (c.requires.can c.loop-tree.tree-index c.tree-item.result c.loop-tree-test.true)

pub build-requires-clause-belongs : goal.build-requires-clause-belongs
build-requires-clause-belongs c =
    (can_later c.args.shelf.now c.loop-tree.shelf c.args.parts.now c.tree-item.result c.loop-tree.invariant.keeps (next_can (goal.at.build-requires-clause-belongs c).After-tree-item)).belongs

pub loop-tree-preserved : goal.loop-tree-preserved
loop-tree-preserved c =
    let can = next_can (goal.at.loop-tree-preserved c).After-tree-item in
    subst (IsMaking c.args.shelf.now c.build.new.shelf (built c.args.shelf.now.trees c.args.parts.now) (take (c.loop-tree.tree-index + 1) c.args.trees.now) c.args.out.now) (sym c.in_ok-push.ensures.ok)
    (making_more c.args.shelf.now c.loop-tree.shelf c.build.new.shelf (built c.args.shelf.now.trees c.args.parts.now) c.args.trees.now c.args.out.now c.loop-tree.out c.loop-tree.tree-index c.tree-item.result c.in_ok-id.id
    c.loop-tree.invariant c.loop-tree-test.true c.tree-item.is c.build.ensures.keeps c.build.ensures.keys c.build.ensures.shelf
    (c.in_ok-id.ensures.found ∙ ap Some (grown_built c.args.shelf.now.trees c.loop-tree.shelf.trees c.args.parts.now c.tree-item.result c.loop-tree.invariant.keeps.trees can.low can.held)))
