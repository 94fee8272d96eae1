use Rattle.std.proofs.Common.{refl, sym, subst, ap, ◌∙◌, take, ◌+◌, map}
use Rattle.labelled_trees.specs.Trees.{leaf}
use Rattle.labelled_trees.specs.declared.Tree.TheVariants.{Leaf}
use Rattle.labelled_trees.proofs.ProgramTrees.{tree_of-leaf}
use Rattle.arity_completion.specs.Uses.{AreUsesOf, IsStartUse}
use Rattle.arity_completion.proofs.Pushing.{uses_push}
use Rattle.arity_completion.proofs.uses.start_uses.Goals as goal

pub loop-start-preserved : goal.loop-start-preserved
loop-start-preserved c =
    subst (AreUsesOf (IsStartUse c.args.factor) (take (c.loop-start.start-index + 1) c.args.starts.now)) (sym c.in_ok-push.ensures.ok)
    (uses_push (IsStartUse c.args.factor) c.args.starts.now c.loop-start.start-index c.start-item.result c.loop-start.uses
    (record { coef = c.args.factor; context = Leaf 0; rule = c.start-item.result.rule; inputs = c.in_ok-leaves_of.field-0 }) c.loop-start-test.true c.start-item.is c.loop-start.invariant
    record { coef = refl; rule = refl; context = tree_of-leaf 0; inputs = c.in_ok-leaves_of.ensures ∙ ap (map leaf) c.as_slice.ensures })
