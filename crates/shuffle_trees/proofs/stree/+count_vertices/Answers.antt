use Rattle.std.proofs.Common.{◌≡◌, ◌+◌, ◌<◌, ap, sym, ◌∙◌, suc, get_or, take, arith, rules}
use Rattle.std.specs.List.{sum_by}
use Rattle.std.proofs.lemmas.List.{take_all}
use Rattle.std.proofs.lemmas.List.Sums.{sum_by_more_le}
use Rattle.labelled_trees.specs.Meaning.{tree_of}
use Rattle.labelled_trees.specs.Trees.{vertices}
use Rattle.labelled_trees.specs.declared.Tree as program
use Rattle.labelled_trees.specs.declared.Tree.TheVariants.{Node}
use Rattle.labelled_trees.specs.declared.Tree.TheViews.{the_lemmas}
use Rattle.shuffle_trees.proofs.Counts.{vertices-node, fewer_inside}
use Rattle.shuffle_trees.proofs.stree.+count_vertices.Goals as goal

pub count_vertices-count-requires : goal.count_vertices-count-requires
count_vertices-count-requires t c =
    let ts = c.as_slice-input-items.result.now in
    let whole : vertices (tree_of c.args.tree.now) ≡ vertices (tree_of (Node c.in-Node.field-0 ts)) = ap (λ u. vertices (tree_of u)) (c.in-Node.is ∙ ap (Node c.in-Node.field-0) (sym c.as_slice-input-items.ensures)) in
    let inside = fewer_inside c.in-Node.field-0 ts c.loop-input.input-index c.input-item.result c.loop-input-test.true c.input-item.is in
    let small : vertices (tree_of c.input-item.result) < 4294967296 = omega (arith, whole, inside, c.requires) in
    search (rules, the_lemmas)

pub overflow_add-count : goal.overflow_add-count
overflow_add-count t c =
    let ts = c.as_slice-input-items.result.now in
    let whole : vertices (tree_of c.args.tree.now) ≡ vertices (tree_of (Node c.in-Node.field-0 ts)) = ap (λ u. vertices (tree_of u)) (c.in-Node.is ∙ ap (Node c.in-Node.field-0) (sym c.as_slice-input-items.ensures)) in
    let more = sum_by_more_le (λ (u : program.Tree). vertices (tree_of u)) ts c.loop-input.input-index c.input-item.result c.loop-input-test.true in
    let here : vertices (tree_of c.input-item.result) ≡ vertices (tree_of (get_or ts c.loop-input.input-index c.input-item.result)) = ap (λ u. vertices (tree_of u)) c.input-item.is in
    let node = vertices-node c.in-Node.field-0 ts in
    let small : c.loop-input.count + c.count_vertices-count.result < 4294967296 = omega (arith, whole, more, here, node, c.requires, c.count_vertices-count.ensures, c.loop-input.invariant) in
    search rules

pub returns-after-loop-input : goal.returns-after-loop-input
returns-after-loop-input t c =
    let i = c.loop-input.input-index in
    let all : take i c.as_slice-input-items.result.now ≡ c.in-Node.inputs = take_all i c.as_slice-input-items.result.now c.loop-input-test.false ∙ c.as_slice-input-items.ensures in
    c.loop-input.invariant ∙ ap (λ us. suc (sum_by (λ u. vertices (tree_of u)) us)) all ∙ sym (vertices-node c.in-Node.field-0 c.in-Node.inputs) ∙ ap (λ u. vertices (tree_of u)) (sym c.in-Node.is)
