use Rattle.std.proofs.Common.{◌<◌, ◌≤◌, ◌≡◌, ◌-◌, ◌+◌, ◌∙◌, ap, map, sym, subst, arith, rules, length}
use Rattle.std.proofs.lemmas.List.{take_all}
use Rattle.std.proofs.lemmas.Result.{IfOk-weaker}
use Rattle.std.specs.List.{All}
use Rattle.labelled_trees.specs.Leaves.{AllLeaves}
use Rattle.labelled_trees.specs.Trees as math
use Rattle.labelled_trees.specs.Insertions.{item}
use Rattle.labelled_trees.specs.Meaning.{tree_of}
use Rattle.labelled_trees.specs.declared.Tree.TheViews.{the_lemmas}
use Rattle.labelled_trees.proofs.ProgramTrees.{tree_of-leaf}
use Rattle.symmetric_trees.proofs.GraftedTrees.{graft-node, leaves-inputs, leaf-grafted}
use Rattle.symmetric_trees.proofs.grafting.+graft.Goals as goal

pub graft-requires : goal.graft-requires
graft-requires t c =
    let m = length c.args.inputs.now in
    let all = leaves-inputs c.in-Node.generator c.in-Node.below (λ i. (0 < i) × (i ≤ m)) (subst (λ u. AllLeaves (tree_of u) (λ i. (0 < i) × (i ≤ m))) c.in-Node.is c.requires.numbers) in
    let here : AllLeaves (tree_of c.branch-item.result) (λ i. (0 < i) × (i ≤ m)) =
    subst (λ u. AllLeaves (tree_of u) (λ i. (0 < i) × (i ≤ m))) (sym c.branch-item.is)
    (subst (All (λ u. AllLeaves (tree_of u) (λ i. (0 < i) × (i ≤ m)))) (sym c.as_slice-branch-items.ensures) all c.loop-branch.branch-index c.branch-item.result c.loop-branch-test.true) in
    search (rules, the_lemmas)

pub returns-in-Leaf : goal.returns-in-Leaf
returns-in-Leaf t c =
    let n = c.in-Leaf.number in
    let numbers : (0 < n) × (n ≤ length c.args.inputs.now) = subst (λ u. AllLeaves u (λ i. (0 < i) × (i ≤ length c.args.inputs.now))) (ap tree_of c.in-Leaf.is ∙ tree_of-leaf n) c.requires.numbers in
    let before : n - 1 + 1 ≡ n = omega (arith, numbers.0) in
    record {
      grafted =
          IfOk-weaker c.copy.result (λ u. u ≡ c.index-inputs-number.result) (λ u. tree_of u ≡ math.graft (tree_of c.args.tree.now) (item (map tree_of c.args.inputs.now)))
          (λ u e. ap tree_of e ∙ leaf-grafted c.args.inputs.now n (n - 1) c.index-inputs-number.result numbers.0 numbers.1 before c.index-inputs-number.is
          ∙ ap (λ v. math.graft (tree_of v) (item (map tree_of c.args.inputs.now))) (sym c.in-Leaf.is)) c.copy.ensures.same;
    }

pub returns-after-loop-branch : goal.returns-after-loop-branch
returns-after-loop-branch t c = record {
  grafted =
      let s = item (map tree_of c.args.inputs.now) in
      let all = take_all c.loop-branch.branch-index c.as_slice-branch-items.result.now c.loop-branch-test.false ∙ c.as_slice-branch-items.ensures in
      graft-node c.in-Node.generator c.in-Node.below c.loop-branch.grown s (c.loop-branch.invariant ∙ ap (map (λ u. math.graft (tree_of u) s)) all) ∙ ap (λ u. math.graft (tree_of u) s) (sym c.in-Node.is);
}
