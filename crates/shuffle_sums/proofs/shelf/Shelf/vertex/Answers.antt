use Rattle.std.proofs.Common.{◌∙◌, ap, sym, subst, map, Err}
use Rattle.labelled_trees.specs.Trees.{node, row}
use Rattle.tree_store.specs.Stores.{tree_at}
use Rattle.shuffle_sums.specs.Shelves.{shown, HasLeavesAmong}
use Rattle.shuffle_sums.proofs.FewTrees.{has_room}
use Rattle.shuffle_sums.proofs.Shelving.{Shelving, grown}
use Rattle.shuffle_sums.proofs.shelf.Shelf.vertex.Goals as goal
use Rattle.shuffle_sums.proofs.shelf.Shelf.vertex.Goals.{In-Err-StoreFull, Joined-vertex}

-- the store isn't full
pub unreachable-requires : goal.unreachable-requires
unreachable-requires c =
    let whole = shown c.self.inside.labels c.self.inside.most c.self.inside.store c.self.inside.keys in
    let belongs = subst (λ s. HasLeavesAmong s.labels s.most (node c.args.label (row (map (tree_at s.trees) c.args.inputs.items)))) (sym c.self.view_is) c.requires.tree in
    has_room whole c.vertex.new.self (node c.args.label (row (map (tree_at c.self.inside.store) c.args.inputs.items))) c.self.invariant.0 c.vertex.ensures.store belongs c.vertex.ensures.added
    (c.vertex.ensures.full (c.in-Err-StoreFull.is ∙ ap Err c.in-Err-StoreFull.field-0-is))

-- what the call left
left : (c : Joined-vertex) → Shelving c.self.inside.labels c.self.inside.most c.self.inside.store c.vertex.new.self c.self.inside.keys c.self.inside.keys 0
left c =
    let belongs = subst (λ s. HasLeavesAmong s.labels s.most (node c.args.label (row (map (tree_at s.trees) c.args.inputs.items)))) (sym c.self.view_is) c.requires.tree in
    grown c.self.inside.labels c.self.inside.most c.self.inside.store c.vertex.new.self c.self.inside.keys c.self.invariant.0 c.self.invariant.1 c.vertex.ensures.store
    (node c.args.label (row (map (tree_at c.self.inside.store) c.args.inputs.items))) belongs c.vertex.ensures.added 0

pub invariant_of-self : goal.invariant_of-self
invariant_of-self c = let l = left c in (l.shelf, l.keys_are)

pub returns-clause-shelf : goal.returns-clause-shelf
returns-clause-shelf c = (left c).shelf
