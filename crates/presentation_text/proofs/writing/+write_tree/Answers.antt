use Rattle.std.proofs.Common.{◌≡◌, ◌<◌, ◌++◌, ◌∷◌, [], ◌+◌, map, drop, length, rules, arith, ap, sym, subst, ◌∙◌}
use Rattle.std.proofs.lemmas.List.{drop_more, length-map}
use Rattle.labelled_trees.specs.Meaning.{tree_of}
use Rattle.labelled_trees.specs.declared.Tree as program
use Rattle.labelled_trees.specs.declared.Tree.TheViews.{the_lemmas}
use Rattle.labelled_trees.proofs.ProgramTrees.{tree_of-node}
use Rattle.symmetric_trees.specs.Trees.{Fits}
use Rattle.presentation_text.specs.TreeText.{tree_text}
use Rattle.presentation_text.proofs.TreeTokens.{FitsNode, arity_in, in_table, name_of-get, node_fits, input_fits}
use Rattle.presentation_text.proofs.TreePrinting.{marked_text, marked_begin, marked_step}
use Rattle.presentation_text.proofs.writing.+write_tree.Goals as goal

pub get-requires : goal.get-requires
get-requires t c =
    let fits : FitsNode c.args.table.now c.in-Node.generator c.in-Node.inputs = node_fits c.args.table.now c.args.tree.now c.in-Node.generator c.in-Node.inputs c.in-Node.is c.requires.fits in
    let least = fits.least in
    record { held = in_table c.args.table.now c.in-Node.generator (omega arith) }

pub loop-input-init : goal.loop-input-init
loop-input-init t c =
    let table = c.args.table.now in
    let g = c.in-Node.generator in
    let items = c.as_slice-input-items.result.now in
    let is : c.args.tree.now ≡ program.Node g items = c.in-Node.is ∙ ap (program.Node g) (sym c.as_slice-input-items.ensures) in
    let fits : FitsNode table g items = node_fits table c.args.tree.now g items is c.requires.fits in
    let least = fits.least in
    let wide = fits.wide in
    let some : 0 < length (map tree_of items) = omega (arith, length-map items tree_of) in
    marked_begin table g (map tree_of items) c.as_bytes.result.now c.args.out.now.items c.extend_from_slice.new.self.items some
    (name_of-get table g c.get.result.now (in_table table g (omega arith)) c.get.ensures.found ∙ sym c.as_str.ensures.bytes ∙ sym c.as_bytes.ensures.value)
    c.in_ok-extend_from_slice-in-Node.ensures.items
    ∙ ap (λ u. c.args.out.now.items ++ tree_text table u) (sym (ap tree_of is ∙ tree_of-node g items))

pub write_tree-requires : goal.write_tree-requires
write_tree-requires t c =
    let table = c.args.table.now in
    let items = c.as_slice-input-items.result.now in
    let is : c.args.tree.now ≡ program.Node c.in-Node.generator items = c.in-Node.is ∙ ap (program.Node c.in-Node.generator) (sym c.as_slice-input-items.ensures) in
    let fits : FitsNode table c.in-Node.generator items = node_fits table c.args.tree.now c.in-Node.generator items is c.requires.fits in
    let input : Fits table (tree_of c.input-item.result) = input_fits (arity_in table) items c.loop-input.input-index c.input-item.result fits.inputs c.loop-input-test.true c.input-item.is in
    search (rules, the_lemmas)

pub loop-input-preserved : goal.loop-input-preserved
loop-input-preserved t c =
    let table = c.args.table.now in
    let items = c.as_slice-input-items.result.now in
    let i = c.loop-input.input-index in
    let others = map tree_of (drop (i + 1) items) in
    let here : drop i items ≡ c.input-item.result ∷ drop (i + 1) items = drop_more items i c.input-item.result c.loop-input-test.true ∙ ap (λ x. x ∷ drop (i + 1) items) (sym c.input-item.is) in
    let end = c.args.out.now.items ++ tree_text table (tree_of c.args.tree.now) in
    marked_step table c.loop-input.mark (tree_of c.input-item.result) others c.loop-input.out.items c.push.new.self.items c.write_tree.new.out.items end
    c.in_ok-push-in-Node.ensures.items c.in_ok-write_tree-in-Node.ensures.text
    (subst (λ rest. c.loop-input.out.items ++ (marked_text table c.loop-input.mark (map tree_of rest) ++ 41 ∷ []) ≡ end) here c.loop-input.invariant)
