use Rattle.std.proofs.Common.{◌≡◌, ◌<◌, ◌+◌, length, map, take, ap, sym, ◌∙◌, subst, arith, slice_get, Some, IfOk}
use Rattle.std.proofs.lemmas.Option.{slice_get-get_or}
use Rattle.labelled_trees.specs.Trees.{leaf, graft}
use Rattle.labelled_trees.specs.Leaves.{occurs}
use Rattle.labelled_trees.proofs.Leaves.{occurs_self}
use Rattle.tree_store.specs.Stores.{tree_at, AddsSubtrees}
use Rattle.tree_store.proofs.Subtrees.{AreInputs, adds_both}
use Rattle.shuffle_sums.specs.Shelves.{HasLeavesAmong}
use Rattle.division.specs.Parts.{built, part_at}
use Rattle.division.proofs.LaidParts.{get_or_any, part_read}
use Rattle.division.proofs.Builds.{building_more, copied_root, input_lower, next_low, next_room, next_held, next_belongs, next_built, added_so_far, vertex_is}
use Rattle.division.proofs.building.+build.Goals as goal

pub build-requires : goal.build-requires
build-requires t c =
    let old = c.args.shelf.now.trees in
    let ts = c.as_slice-input-items.result.now in
    let root = copied_root c.store.result.now old c.args.tree c.in-Node.label c.in-Node.inputs.now ts c.store.ensures.store (c.as_slice-input-items.ensures ∙ c.in_ok-inputs-in-Node.ensures.ok) c.in-Node.ensures.root in
    let low = input_lower old c.args.tree c.in-Node.label ts c.args.parts.now root c.requires.tree c.requires.room c.requires.held c.loop-input.input-index c.input-item.result c.loop-input-test.true c.input-item.is in
    let belongs = next_belongs old c.args.tree c.in-Node.label ts c.args.parts.now root c.requires.tree c.requires.room c.requires.held c.loop-input.input-index c.input-item.result c.loop-input-test.true c.input-item.is c.loop-input.shelf.labels c.loop-input.shelf.most c.loop-input.invariant.so_far.added.0 c.loop-input.shelf.trees c.loop-input.invariant.so_far.added.1
    (subst (λ ls. HasLeavesAmong ls c.loop-input.shelf.most (built old c.args.parts.now c.args.tree)) (sym c.loop-input.invariant.keeps.labels)
    (subst (λ n. HasLeavesAmong c.args.shelf.now.labels n (built old c.args.parts.now c.args.tree)) (sym c.loop-input.invariant.keeps.most) c.requires.belongs)) in (
      omega (arith, low),
      (next_low old c.args.tree c.in-Node.label ts c.args.parts.now root c.requires.tree c.requires.room c.requires.held c.loop-input.input-index c.input-item.result c.loop-input-test.true c.input-item.is c.loop-input.invariant.so_far.added.0 c.loop-input.shelf.trees c.loop-input.invariant.so_far.added.1, (next_room old c.args.tree c.in-Node.label ts c.args.parts.now root c.requires.tree c.requires.room c.requires.held c.loop-input.input-index c.input-item.result c.loop-input-test.true c.input-item.is c.loop-input.invariant.so_far.added.0 c.loop-input.shelf.trees c.loop-input.invariant.so_far.added.1, (next_held old c.args.tree c.in-Node.label ts c.args.parts.now root c.requires.tree c.requires.room c.requires.held c.loop-input.input-index c.input-item.result c.loop-input-test.true c.input-item.is c.loop-input.invariant.so_far.added.0 c.loop-input.shelf.trees c.loop-input.invariant.so_far.added.1, belongs))),
    )

pub returns-in_err-id-in-Node-clause-added : goal.returns-in_err-id-in-Node-clause-added
returns-in_err-id-in-Node-clause-added t c =
    let old = c.args.shelf.now.trees in
    let ts = c.as_slice-input-items.result.now in
    let root = copied_root c.store.result.now old c.args.tree c.in-Node.label c.in-Node.inputs.now ts c.store.ensures.store (c.as_slice-input-items.ensures ∙ c.in_ok-inputs-in-Node.ensures.ok) c.in-Node.ensures.root in
    added_so_far old c.args.tree c.in-Node.label ts c.args.parts.now root c.requires.tree c.requires.room c.requires.held c.loop-input.input-index c.input-item.result c.loop-input-test.true c.input-item.is c.loop-input.shelf.trees c.build.new.shelf.trees c.loop-input.invariant.so_far.added c.build.ensures.added

pub returns-in_err-push-in-Node-clause-added : goal.returns-in_err-push-in-Node-clause-added
returns-in_err-push-in-Node-clause-added t c =
    let old = c.args.shelf.now.trees in
    let ts = c.as_slice-input-items.result.now in
    let root = copied_root c.store.result.now old c.args.tree c.in-Node.label c.in-Node.inputs.now ts c.store.ensures.store (c.as_slice-input-items.ensures ∙ c.in_ok-inputs-in-Node.ensures.ok) c.in-Node.ensures.root in
    added_so_far old c.args.tree c.in-Node.label ts c.args.parts.now root c.requires.tree c.requires.room c.requires.held c.loop-input.input-index c.input-item.result c.loop-input-test.true c.input-item.is c.loop-input.shelf.trees c.build.new.shelf.trees c.loop-input.invariant.so_far.added c.build.ensures.added

pub loop-input-preserved : goal.loop-input-preserved
loop-input-preserved t c =
    let old = c.args.shelf.now.trees in
    let ts = c.as_slice-input-items.result.now in
    let root = copied_root c.store.result.now old c.args.tree c.in-Node.label c.in-Node.inputs.now ts c.store.ensures.store (c.as_slice-input-items.ensures ∙ c.in_ok-inputs-in-Node.ensures.ok) c.in-Node.ensures.root in
    let whole = built old c.args.parts.now c.args.tree in
    building_more c.args.shelf.now c.loop-input.shelf c.build.new.shelf whole (map (built old c.args.parts.now) (take c.loop-input.input-index ts)) (map (built old c.args.parts.now) (take (c.loop-input.input-index + 1) ts))
    c.loop-input.ids.items c.push.new.self.items c.loop-input.invariant c.build.ensures.keeps c.build.ensures.keys
    (subst (AreInputs old c.build.new.shelf.trees whole (map (built old c.args.parts.now) (take (c.loop-input.input-index + 1) ts))) (sym c.in_ok-push-in-Node.ensures.ok)
    (next_built old c.args.tree c.in-Node.label ts c.args.parts.now root c.requires.tree c.requires.room c.requires.held c.loop-input.input-index c.input-item.result c.loop-input-test.true c.input-item.is c.loop-input.shelf.trees c.build.new.shelf.trees c.loop-input.ids.items c.in_ok-id-in-Node.id c.loop-input.invariant.so_far c.build.ensures.added c.in_ok-id-in-Node.ensures.found))

pub vertex-requires-clause-tree : goal.vertex-requires-clause-tree
vertex-requires-clause-tree t c =
    let old = c.args.shelf.now.trees in
    let ts = c.as_slice-input-items.result.now in
    let root = copied_root c.store.result.now old c.args.tree c.in-Node.label c.in-Node.inputs.now ts c.store.ensures.store (c.as_slice-input-items.ensures ∙ c.in_ok-inputs-in-Node.ensures.ok) c.in-Node.ensures.root in
    subst (HasLeavesAmong c.loop-input.shelf.labels c.loop-input.shelf.most) (sym (vertex_is old c.args.tree c.in-Node.label ts c.args.parts.now root c.requires.tree c.requires.room c.requires.held c.loop-input.shelf.trees c.loop-input.input-index c.loop-input.ids.items c.loop-input-test.false c.loop-input.invariant.so_far))
    (subst (λ ls. HasLeavesAmong ls c.loop-input.shelf.most (built old c.args.parts.now c.args.tree)) (sym c.loop-input.invariant.keeps.labels)
    (subst (λ n. HasLeavesAmong c.args.shelf.now.labels n (built old c.args.parts.now c.args.tree)) (sym c.loop-input.invariant.keeps.most) c.requires.belongs))

pub returns-after-loop-input-clause-found : goal.returns-after-loop-input-clause-found
returns-after-loop-input-clause-found t c =
    let old = c.args.shelf.now.trees in
    let ts = c.as_slice-input-items.result.now in
    let root = copied_root c.store.result.now old c.args.tree c.in-Node.label c.in-Node.inputs.now ts c.store.ensures.store (c.as_slice-input-items.ensures ∙ c.in_ok-inputs-in-Node.ensures.ok) c.in-Node.ensures.root in
    subst (λ w. IfOk c.vertex.result (λ id. slice_get c.vertex.new.self.trees id ≡ Some w)) (vertex_is old c.args.tree c.in-Node.label ts c.args.parts.now root c.requires.tree c.requires.room c.requires.held c.loop-input.shelf.trees c.loop-input.input-index c.loop-input.ids.items c.loop-input-test.false c.loop-input.invariant.so_far) c.vertex.ensures.found

pub returns-after-loop-input-clause-added : goal.returns-after-loop-input-clause-added
returns-after-loop-input-clause-added t c =
    let old = c.args.shelf.now.trees in
    let ts = c.as_slice-input-items.result.now in
    let root = copied_root c.store.result.now old c.args.tree c.in-Node.label c.in-Node.inputs.now ts c.store.ensures.store (c.as_slice-input-items.ensures ∙ c.in_ok-inputs-in-Node.ensures.ok) c.in-Node.ensures.root in
    adds_both old c.loop-input.shelf.trees c.vertex.new.self.trees (built old c.args.parts.now c.args.tree) c.loop-input.invariant.so_far.added
    (subst (AddsSubtrees c.loop-input.shelf.trees c.vertex.new.self.trees) (vertex_is old c.args.tree c.in-Node.label ts c.args.parts.now root c.requires.tree c.requires.room c.requires.held c.loop-input.shelf.trees c.loop-input.input-index c.loop-input.ids.items c.loop-input-test.false c.loop-input.invariant.so_far) c.vertex.ensures.added)

pub returns-in-Leaf-clause-found : goal.returns-in-Leaf-clause-found
returns-in-Leaf-clause-found t c =
    let old = c.args.shelf.now.trees in
    let is : tree_at old c.args.tree ≡ leaf c.in-Leaf.number = subst (λ ts. tree_at ts c.args.tree ≡ leaf c.in-Leaf.number) c.store.ensures.store c.in-Leaf.ensures.root in
    let one = occurs_self c.in-Leaf.number in
    let e = ap (occurs c.in-Leaf.number) is in
    let within : c.in-Leaf.number < length c.args.parts.now = c.requires.room c.in-Leaf.number (omega (arith, one, e)) in
    let low = c.requires.held c.in-Leaf.number (omega (arith, one, e)) in
    let read = part_read old c.args.parts.now c.in-Leaf.number c.index-parts-number.result within c.index-parts-number.is in
    let lower : c.index-parts-number.result < length old = subst (λ i. i < length old) (sym (c.index-parts-number.is ∙ get_or_any c.args.parts.now c.in-Leaf.number c.index-parts-number.result 0 within)) low in
    slice_get-get_or old c.index-parts-number.result (leaf 0) lower ∙ ap Some (read ∙ ap (λ t. graft t (part_at old c.args.parts.now)) (sym is))
