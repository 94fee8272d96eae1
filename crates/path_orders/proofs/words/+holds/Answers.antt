use Rattle.std.proofs.Common.{◌<◌, ap, sym, ◌∙◌, subst, arith, refl}
use Rattle.labelled_trees.specs.Meaning.{tree_of}
use Rattle.labelled_trees.specs.Leaves.{occurs}
use Rattle.labelled_trees.specs.declared.Tree.TheVariants.{Node}
use Rattle.path_orders.proofs.LeafWords.{stands_inside, stands_nowhere}
use Rattle.path_orders.proofs.words.+holds.Goals as goal

pub returns-then-holds : goal.returns-then-holds
returns-then-holds t c = (
  λ e. subst (λ u. 0 < occurs c.args.number (tree_of u)) (sym (c.in-Node.is ∙ ap (Node c.in-Node.field-0) (sym c.as_slice-input-items.ensures)))
      (stands_inside c.args.number c.in-Node.field-0 c.as_slice-input-items.result.now c.loop-input.input-index c.input-item.result c.loop-input-test.true c.input-item.is (c.if-holds.ensures.0 refl)),
  λ h. refl,
)

pub returns-after-loop-input : goal.returns-after-loop-input
returns-after-loop-input t c =
    let none = ap (λ u. occurs c.args.number (tree_of u)) (c.in-Node.is ∙ ap (Node c.in-Node.field-0) (sym c.as_slice-input-items.ensures))
    ∙ stands_nowhere c.args.number c.in-Node.field-0 c.as_slice-input-items.result.now c.loop-input.input-index c.loop-input-test.false c.loop-input.invariant in
    (λ e. absurd cc, λ h. absurd (omega (arith, none, h)))
