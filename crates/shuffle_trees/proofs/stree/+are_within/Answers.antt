use Rattle.std.proofs.Common.{◌≡◌, ◌≤◌, ap, sym, ◌∙◌, subst, take, refl}
use Rattle.std.proofs.lemmas.List.{take_all}
use Rattle.labelled_trees.specs.Meaning.{tree_of}
use Rattle.labelled_trees.specs.Leaves.{AllLeaves}
use Rattle.labelled_trees.specs.declared.Tree.TheVariants.{Node}
use Rattle.labelled_trees.proofs.ProgramTrees.{all_leaves-node}
use Rattle.shuffle_trees.proofs.Vertices.{input_all}
use Rattle.shuffle_trees.proofs.Walking.{AreWithin}
use Rattle.shuffle_trees.proofs.stree.+are_within.Goals as goal

pub returns-then-not-are_within : goal.returns-then-not-are_within
returns-then-not-are_within t c = (
  λ e. absurd cc,
  λ h.
      let ts = c.as_slice-input-items.result.now in
      let whole = subst (λ u. AllLeaves (tree_of u) (λ i. i ≤ c.args.most)) (c.in-Node.is ∙ ap (Node c.in-Node.field-0) (sym c.as_slice-input-items.ensures)) h in
      c.if-not-are_within.ensures.1 (input_all c.in-Node.field-0 ts c.loop-input.input-index c.input-item.result (λ i. i ≤ c.args.most) c.loop-input-test.true c.input-item.is whole),
)

pub returns-after-loop-input : goal.returns-after-loop-input
returns-after-loop-input t c =
    let i = c.loop-input.input-index in
    let all : take i c.as_slice-input-items.result.now ≡ c.in-Node.inputs = take_all i c.as_slice-input-items.result.now c.loop-input-test.false ∙ c.as_slice-input-items.ensures in (
      λ e. subst (λ u. AllLeaves (tree_of u) (λ i. i ≤ c.args.most)) (sym c.in-Node.is) (all_leaves-node c.in-Node.field-0 c.in-Node.inputs (λ i. i ≤ c.args.most) (subst (AreWithin c.args.most) all c.loop-input.invariant)),
      λ h. refl,
    )
