use Rattle.std.proofs.Common.{◌≡◌, ◌∙◌, suc, ◌-◌, ◌<◌, ◌≤◌, length, map, take, ap, sym, subst, arith, rules}
use Rattle.std.proofs.lemmas.List.{take_all}
use Rattle.labelled_trees.specs.Trees.{leaf, graft}
use Rattle.labelled_trees.specs.Leaves.{AllLeaves}
use Rattle.labelled_trees.specs.Insertions.{item}
use Rattle.labelled_trees.specs.Meaning.{tree_of}
use Rattle.labelled_trees.specs.declared.Tree.TheVariants.{Node}
use Rattle.labelled_trees.specs.declared.Tree.TheViews.{the_lemmas}
use Rattle.labelled_trees.proofs.ProgramTrees.{tree_of-leaf}
use Rattle.shuffle_trees.proofs.InsertedTrees.{item_at}
use Rattle.shuffle_trees.proofs.Vertices.{input_all, node-graft}
use Rattle.shuffle_trees.proofs.insertion.+with_inputs.Goals as goal

pub with_inputs-requires : goal.with_inputs-requires
with_inputs-requires t c =
    let ts = c.as_slice-child-items.result.now in
    let whole = subst (λ u. AllLeaves (tree_of u) (λ i. (0 < i) × (i ≤ length c.args.inputs.now))) (c.in-Node.is ∙ ap (Node c.in-Node.label) (sym c.as_slice-child-items.ensures)) c.requires in
    let inside : AllLeaves (tree_of c.child-item.result) (λ i. (0 < i) × (i ≤ length c.args.inputs.now)) =
    input_all c.in-Node.label ts c.loop-child.child-index c.child-item.result (λ i. (0 < i) × (i ≤ length c.args.inputs.now)) c.loop-child-test.true c.child-item.is whole in
    search (rules, the_lemmas)

pub returns-after-loop-child : goal.returns-after-loop-child
returns-after-loop-child t c =
    let all : take c.loop-child.child-index c.as_slice-child-items.result.now ≡ c.in-Node.children = take_all c.loop-child.child-index c.as_slice-child-items.result.now c.loop-child-test.false ∙ c.as_slice-child-items.ensures in
    record {
      grafted = node-graft c.in-Node.label c.in-Node.children c.loop-child.made (item c.args.inputs.now) (c.loop-child.invariant ∙ ap (map (λ u. graft (tree_of u) (item c.args.inputs.now))) all)
          ∙ ap (λ u. graft (tree_of u) (item c.args.inputs.now)) (sym c.in-Node.is);
    }

pub returns-in_ok-copy-in-Leaf : goal.returns-in_ok-copy-in-Leaf
returns-in_ok-copy-in-Leaf t c =
    let n = c.in-Leaf.number in
    let inputs = c.args.inputs.now in
    let leaf_is : tree_of c.args.tree.now ≡ leaf n = ap tree_of c.in-Leaf.is ∙ tree_of-leaf n in
    let here = subst (λ u. AllLeaves u (λ i. (0 < i) × (i ≤ length inputs))) leaf_is c.requires in
    let back : suc (n - 1) ≡ n = omega (arith, here.0) in
    let found = item_at inputs (n - 1) c.index-inputs-number.result (omega (arith, here.0, here.1)) c.index-inputs-number.is in
    record {
      grafted = ap tree_of c.in_ok-copy-in-Leaf.ensures.same ∙ c.shape.ensures.shape ∙ sym (ap (λ u. graft u (item inputs)) leaf_is ∙ ap (item inputs) (sym back) ∙ found);
    }
