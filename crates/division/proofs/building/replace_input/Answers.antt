use Rattle.std.proofs.Common.{ℕ, List, ◌≡◌, ◌<◌, length, map, refl, ap, sym, ◌∙◌, subst, arith, slice_get, Some, IfOk}
use Rattle.std.specs.List.{All}
use Rattle.std.specs.Prelude.{slice_set}
use Rattle.std.proofs.lemmas.Option.{slice_get-get_or}
use Rattle.labelled_trees.specs.Trees.{leaf, node, row}
use Rattle.tree_store.specs.Stores.{tree_at, AddsSubtrees}
use Rattle.shuffle_sums.specs.Shelves.{HasLeavesAmong}
use Rattle.division.specs.Parts.{replaced}
use Rattle.division.proofs.Builds.{HasInputs, copied_root, set_held, less_held, replaced_vertex}
use Rattle.division.proofs.building.replace_input.Goals as goal
use Rattle.division.proofs.building.replace_input.Goals.{In-Node}

-- the host's root
root_of : (c : In-Node) → HasInputs c.args.shelf.now.trees c.args.host c.in-Node.label c.in-Node.inputs.now
root_of c = copied_root c.store.result.now c.args.shelf.now.trees c.args.host c.in-Node.label c.in-Node.inputs.now c.in-Node.inputs.now c.store.ensures.store refl c.in-Node.ensures.root

pub returns-in-Leaf-clause-found : goal.returns-in-Leaf-clause-found
returns-in-Leaf-clause-found c =
    let old = c.args.shelf.now.trees in
    let is : tree_at old c.args.host ≡ leaf c.in-Leaf.field-0 = subst (λ ts. tree_at ts c.args.host ≡ leaf c.in-Leaf.field-0) c.store.ensures.store c.in-Leaf.ensures.root in
    slice_get-get_or old c.args.host (leaf 0) c.requires.host ∙ ap Some (is ∙ ap (λ t. replaced t c.args.at (tree_at old c.args.other)) (sym is))

-- the vertex is the host with the other input
made : (c : In-Node) (ids : List ℕ) → ids ≡ slice_set c.in-Node.inputs.now c.args.at c.args.other
    → node c.in-Node.label (row (map (tree_at c.args.shelf.now.trees) ids)) ≡ replaced (tree_at c.args.shelf.now.trees c.args.host) c.args.at (tree_at c.args.shelf.now.trees c.args.other)
made c ids e = replaced_vertex c.args.shelf.now.trees c.args.host c.in-Node.label c.in-Node.inputs.now c.args.at c.args.other ids (root_of c) e

pub vertex-requires-clause-held : goal.vertex-requires-clause-held
vertex-requires-clause-held c =
    let old = c.args.shelf.now.trees in
    let root = root_of (goal.at.vertex-requires-clause-held c).In-Node in
    subst (All (λ i. i < length old)) (sym c.in_ok-ids-in-Node.ensures.changed)
    (set_held (length old) c.in-Node.inputs.now c.args.at c.args.other c.requires.other (less_held c.args.host (length old) c.in-Node.inputs.now (let h = c.requires.host in omega (arith, h)) root.lower))

pub vertex-requires-clause-tree : goal.vertex-requires-clause-tree
vertex-requires-clause-tree c =
    subst (HasLeavesAmong c.args.shelf.now.labels c.args.shelf.now.most) (sym (made (goal.at.vertex-requires-clause-tree c).In-Node c.in_ok-ids-in-Node.ids.items c.in_ok-ids-in-Node.ensures.changed)) c.requires.belongs

pub returns-in_ok-ids-in-Node-clause-found : goal.returns-in_ok-ids-in-Node-clause-found
returns-in_ok-ids-in-Node-clause-found c =
    subst (λ w. IfOk c.vertex.result (λ id. slice_get c.vertex.new.self.trees id ≡ Some w)) (made (goal.at.returns-in_ok-ids-in-Node-clause-found c).In-Node c.in_ok-ids-in-Node.ids.items c.in_ok-ids-in-Node.ensures.changed) c.vertex.ensures.found

pub returns-in_ok-ids-in-Node-clause-added : goal.returns-in_ok-ids-in-Node-clause-added
returns-in_ok-ids-in-Node-clause-added c =
    subst (AddsSubtrees c.args.shelf.now.trees c.vertex.new.self.trees) (made (goal.at.returns-in_ok-ids-in-Node-clause-added c).In-Node c.in_ok-ids-in-Node.ids.items c.in_ok-ids-in-Node.ensures.changed) c.vertex.ensures.added
