use Rattle.std.proofs.Common.{◌≡◌, ◌∙◌, ap, sym, ℕ, refl}
use Rattle.std.specs.Prelude.{true, false}
use Rattle.labelled_trees.specs.Meaning.{tree_of}
use Rattle.labelled_trees.specs.declared.Tree as program
use Rattle.labelled_trees.specs.declared.Tree.TheVariants.{Node}
use Rattle.std.specs.declared.cmp.Ordering.{Ordering}
use Rattle.shuffle_insertions.specs.Keys.{words_at}
use Rattle.path_orders.specs.WordSteps.{WordsCompared}
use Rattle.path_orders.proofs.LeafWords.{same_word, passed, two_vertices, leaf_vertex, vertex_leaf, no_words_left}
use Rattle.path_orders.proofs.words.+compare_at.Goals as goal

-- the comparison of two trees is that of the trees that they are
as_trees : (j : ℕ) (one other a b : program.Tree) (lengths letters : Ordering) → one ≡ a → other ≡ b
    → WordsCompared (words_at j (tree_of a)) (words_at j (tree_of b)) lengths letters → WordsCompared (words_at j (tree_of one)) (words_at j (tree_of other)) lengths letters
as_trees j one other a b lengths letters e f h v w hv hw = h v w (ap (λ u. words_at j (tree_of u)) (sym e) ∙ hv) (ap (λ u. words_at j (tree_of u)) (sym f) ∙ hw)

pub returns-in-Node-other : goal.returns-in-Node-other
returns-in-Node-other t c = as_trees c.args.number c.args.one.now c.args.other.now _ _ _ _ c.in-Leaf.is c.in-Node-other.is (leaf_vertex c.args.number c.in-Leaf.field-0 c.in-Node-other.field-0 c.in-Node-other.field-1)

pub returns-in-Leaf-other-2 : goal.returns-in-Leaf-other-2
returns-in-Leaf-other-2 t c = as_trees c.args.number c.args.one.now c.args.other.now _ _ _ _ c.in-Node.is c.in-Leaf-other-2.is (vertex_leaf c.args.number c.in-Leaf-other-2.field-0 c.in-Node.label c.in-Node.inputs)

pub loop-input-preserved : goal.loop-input-preserved
loop-input-preserved t c =
    passed c.args.number c.as_slice-input-items.result.now c.loop-input.input-index c.input-item.result c.loop-input-test.true c.input-item.is c.loop-input.invariant
    (λ o. let e : false ≡ true = c.if-holds.ensures.1 o in cc)

pub returns-after-loop-input : goal.returns-after-loop-input
returns-after-loop-input t c v w hv hw =
    absurd (no_words_left c.args.number c.in-Node.label c.as_slice-input-items.result.now c.loop-input.input-index v c.loop-input-test.false c.loop-input.invariant
    (ap (λ u. words_at c.args.number (tree_of u)) (sym (c.in-Node.is ∙ ap (Node c.in-Node.label) (sym c.as_slice-input-items.ensures))) ∙ hv))

pub returns-then-holds : goal.returns-then-holds
returns-then-holds t c =
    let items = c.as_slice-input-items.result.now in
    let others = c.as_slice.result.now in
    as_trees c.args.number c.args.one.now c.args.other.now (Node c.in-Node.label items) (Node c.in-Node-other-2.against others) c.compare_at-lengths.result.0 c.then.result
    (c.in-Node.is ∙ ap (Node c.in-Node.label) (sym c.as_slice-input-items.ensures)) (c.in-Node-other-2.is ∙ ap (Node c.in-Node-other-2.against) (sym c.as_slice.ensures))
    (two_vertices c.args.number c.in-Node.label c.in-Node-other-2.against items others c.input-item.result c.in-Some.opposite.now c.compare_at-lengths.result.0 c.compare_at-lengths.result.1 c.cmp.result c.then.result
    (same_word c.args.number items c.loop-input.input-index c.input-item.result c.loop-input-test.true c.input-item.is c.loop-input.invariant (c.if-holds.ensures.0 refl))
    c.in-Some.ensures.found c.compare_at-lengths.ensures c.cmp.ensures c.then.ensures)
