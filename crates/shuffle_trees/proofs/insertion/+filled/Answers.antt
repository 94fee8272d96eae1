use Rattle.std.proofs.Common.{◌≡◌, ◌∙◌, map, take, ap, sym}
use Rattle.std.proofs.lemmas.List.{take_all}
use Rattle.labelled_trees.specs.Trees.{graft}
use Rattle.labelled_trees.specs.Insertions.{put, at_zero, item}
use Rattle.labelled_trees.specs.Meaning.{tree_of}
use Rattle.shuffle_trees.proofs.Vertices.{node-graft}
use Rattle.shuffle_trees.proofs.insertion.+filled.Goals as goal

pub returns-after-loop-child : goal.returns-after-loop-child
returns-after-loop-child t c =
    let y = graft (tree_of c.args.tree.now) (item c.args.inputs.now) in
    let all : take c.loop-child.child-index c.as_slice-child-items.result.now ≡ c.in-Node.children = take_all c.loop-child.child-index c.as_slice-child-items.result.now c.loop-child-test.false ∙ c.as_slice-child-items.ensures in
    record {
      filled = node-graft c.in-Node.label c.in-Node.children c.loop-child.made (at_zero y) (c.loop-child.invariant ∙ ap (map (λ u. put (tree_of u) y)) all) ∙ ap (λ u. put (tree_of u) y) (sym c.in-Node.is);
    }
