use Rattle.std.proofs.Common.{◌≡◌, ◌+◌, ◌<◌, ap, sym, ◌∙◌, get_or, take, arith, rules}
use Rattle.std.specs.List.{sum_by}
use Rattle.std.proofs.lemmas.List.{take_all}
use Rattle.std.proofs.lemmas.List.Sums.{sum_by_more_le}
use Rattle.labelled_trees.specs.Meaning.{tree_of}
use Rattle.labelled_trees.specs.Leaves.{leaf_count}
use Rattle.labelled_trees.specs.declared.Tree as program
use Rattle.labelled_trees.specs.declared.Tree.TheVariants.{Node}
use Rattle.labelled_trees.specs.declared.Tree.TheViews.{the_lemmas}
use Rattle.labelled_trees.proofs.ProgramTrees.{sum_leaves-node}
use Rattle.shuffle_trees.proofs.stree.+count_leaves.Goals as goal

pub count_leaves-count-requires : goal.count_leaves-count-requires
count_leaves-count-requires t c =
    let ts = c.as_slice-input-items.result.now in
    let whole : leaf_count (tree_of c.args.tree.now) ≡ sum_by (λ u. leaf_count (tree_of u)) ts = ap (λ u. leaf_count (tree_of u)) (c.in-Node.is ∙ ap (Node c.in-Node.field-0) (sym c.as_slice-input-items.ensures)) ∙ sum_leaves-node c.in-Node.field-0 ts (λ a. 1) in
    let more = sum_by_more_le (λ (u : program.Tree). leaf_count (tree_of u)) ts c.loop-input.input-index c.input-item.result c.loop-input-test.true in
    let here : leaf_count (tree_of c.input-item.result) ≡ leaf_count (tree_of (get_or ts c.loop-input.input-index c.input-item.result)) = ap (λ u. leaf_count (tree_of u)) c.input-item.is in
    let small : leaf_count (tree_of c.input-item.result) < 256 = omega (arith, whole, more, here, c.requires) in
    search (rules, the_lemmas)

pub overflow_add-count : goal.overflow_add-count
overflow_add-count t c =
    let ts = c.as_slice-input-items.result.now in
    let whole : leaf_count (tree_of c.args.tree.now) ≡ sum_by (λ u. leaf_count (tree_of u)) ts = ap (λ u. leaf_count (tree_of u)) (c.in-Node.is ∙ ap (Node c.in-Node.field-0) (sym c.as_slice-input-items.ensures)) ∙ sum_leaves-node c.in-Node.field-0 ts (λ a. 1) in
    let more = sum_by_more_le (λ (u : program.Tree). leaf_count (tree_of u)) ts c.loop-input.input-index c.input-item.result c.loop-input-test.true in
    let here : leaf_count (tree_of c.input-item.result) ≡ leaf_count (tree_of (get_or ts c.loop-input.input-index c.input-item.result)) = ap (λ u. leaf_count (tree_of u)) c.input-item.is in
    let small : c.loop-input.count + c.count_leaves-count.result < 256 = omega (arith, whole, more, here, c.requires, c.count_leaves-count.ensures, c.loop-input.invariant) in
    search rules

pub returns-after-loop-input : goal.returns-after-loop-input
returns-after-loop-input t c =
    let i = c.loop-input.input-index in
    let all : take i c.as_slice-input-items.result.now ≡ c.in-Node.inputs = take_all i c.as_slice-input-items.result.now c.loop-input-test.false ∙ c.as_slice-input-items.ensures in
    c.loop-input.invariant ∙ ap (sum_by (λ u. leaf_count (tree_of u))) all ∙ sym (sum_leaves-node c.in-Node.field-0 c.in-Node.inputs (λ a. 1)) ∙ ap (λ u. leaf_count (tree_of u)) (sym c.in-Node.is)
