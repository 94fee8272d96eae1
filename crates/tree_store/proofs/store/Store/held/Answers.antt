use Rattle.std.proofs.Common.{◌≡◌, Some, slice_get, length, arith, ap, sym, ◌∙◌, subst}
use Rattle.labelled_trees.specs.Trees.{Tree}
use Rattle.labelled_trees.specs.Leaves.{leaf_count}
use Rattle.shuffle_insertions.specs.ShuffleTrees.{least}
use Rattle.tree_store.specs.Stores.{tree_at}
use Rattle.tree_store.specs.Nodes.{tree_by, trees_of, AreCounts, IsCounted}
use Rattle.tree_store.proofs.Trees.{length-trees_of, node_at, tree_here}
use Rattle.tree_store.proofs.store.Store.held.Goals as goal

pub bounds-as_slice-id-inside : goal.bounds-as_slice-id-inside
bounds-as_slice-id-inside c =
    let same = length-trees_of c.self.inside.nodes.keys in
    let shown = ap length c.self.view_is in
    let keys = ap length c.as_slice.ensures.keys in
    let id = c.id.view_is in
    omega (arith, same, shown, keys, id)

pub returns-in-Leaf : goal.returns-in-Leaf
returns-in-Leaf c =
    let keys = c.self.inside.nodes.keys in
    let same = length-trees_of keys in
    let shown = ap length c.self.view_is in
    let n = c.index-as_slice-id.result in
    let at : slice_get keys c.args.id ≡ Some n = node_at keys c.as_slice.result.now c.args.id c.id.inside.0 n c.as_slice.ensures.keys c.id.view_is (omega (arith, same, shown)) c.index-as_slice-id.is in
    let tree = ap (λ ts. tree_at ts c.args.id) (sym c.self.view_is) ∙ tree_here keys c.args.id n c.self.invariant.0 at ∙ ap (λ m. tree_by (trees_of keys) m) c.in-Leaf.is in
    record { counts = (sym (ap least tree), sym (ap leaf_count tree)) }

pub returns-in-Vertex : goal.returns-in-Vertex
returns-in-Vertex c =
    let keys = c.self.inside.nodes.keys in
    let same = length-trees_of keys in
    let shown = ap length c.self.view_is in
    let n = c.index-as_slice-id.result in
    let at : slice_get keys c.args.id ≡ Some n = node_at keys c.as_slice.result.now c.args.id c.id.inside.0 n c.as_slice.ensures.keys c.id.view_is (omega (arith, same, shown)) c.index-as_slice-id.is in
    let tree = ap (λ ts. tree_at ts c.args.id) (sym c.self.view_is) ∙ tree_here keys c.args.id n c.self.invariant.0 at ∙ ap (λ m. tree_by (trees_of keys) m) c.in-Vertex.is in
    let counted = subst (IsCounted (trees_of keys)) c.in-Vertex.is (c.self.invariant.2 c.args.id n at) in
    record { counts = subst (λ (t : Tree _). AreCounts t c.in-Vertex.counts) (sym tree) counted }
