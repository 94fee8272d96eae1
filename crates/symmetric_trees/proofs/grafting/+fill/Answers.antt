use Rattle.std.proofs.Common.{◌∙◌, ap, map, sym}
use Rattle.std.proofs.lemmas.List.{take_all}
use Rattle.labelled_trees.specs.Trees as math
use Rattle.labelled_trees.specs.Insertions.{item, at_zero}
use Rattle.labelled_trees.specs.Meaning.{tree_of}
use Rattle.symmetric_trees.proofs.GraftedTrees.{graft-node}
use Rattle.symmetric_trees.proofs.grafting.+fill.Goals as goal

pub returns-after-loop-branch : goal.returns-after-loop-branch
returns-after-loop-branch t c = record {
  filled =
      let s = at_zero (math.graft (tree_of c.args.tree.now) (item (map tree_of c.args.inputs.now))) in
      let all = take_all c.loop-branch.branch-index c.as_slice-branch-items.result.now c.loop-branch-test.false ∙ c.as_slice-branch-items.ensures in
      graft-node c.in-Node.generator c.in-Node.below c.loop-branch.filled s (c.loop-branch.invariant ∙ ap (map (λ u. math.graft (tree_of u) s)) all) ∙ ap (λ u. math.graft (tree_of u) s) (sym c.in-Node.is);
}
