use Rattle.std.proofs.Common.{◌≡◌, ◌∙◌, ℕ, suc, ◌+◌, ◌≤◌, List, length, sym, ap, subst, take, drop, arith, refl}
use Rattle.std.proofs.lemmas.List.{take_all}
use Rattle.std.specs.List.{AllByRecursion}
use Rattle.labelled_trees.specs.Trees.{leaf, row}
use Rattle.labelled_trees.specs.Insertions.{put}
use Rattle.labelled_trees.specs.Meaning.{tree_of}
use Rattle.labelled_trees.specs.declared.Tree as program
use Rattle.labelled_trees.specs.declared.Tree.TheVariants.{Node}
use Rattle.shuffle_insertions.specs.ShuffleTrees.{least, least_row, IsRising}
use Rattle.shuffle_trees.specs.ValidTrees.{IsWide}
use Rattle.shuffle_trees.specs.Checks.{IsUnordered}
use Rattle.shuffle_trees.proofs.Vertices.{with_hole, RisesFrom, wide-node, wide-inputs, rising-node, rising-inputs, least-node, next_input, input_wide, first_least, wide_more, no_more}
use Rattle.shuffle_trees.proofs.checks.+least_leaf.Goals as goal

-- the vertex is unordered, where this is so of its inputs
vertex_unordered : (t : program.Tree) (g : ℕ) (items ts : List program.Tree) (hole : ℕ) → t ≡ Node g ts → items ≡ ts
    → ((2 ≤ length items) × AllByRecursion (λ u. IsWide (tree_of u)) items → RisesFrom 0 (with_hole (leaf hole) items) → ⊥)
    → IsUnordered (tree_of t) (put (tree_of t) (leaf hole))
vertex_unordered t g items ts hole is e h w r =
    let wide = wide-inputs g items (subst (λ u. IsWide (tree_of u)) (is ∙ ap (Node g) (sym e)) w) in
    let rising = rising-inputs g items (leaf hole) (subst (λ u. IsRising (put (tree_of u) (leaf hole))) (is ∙ ap (Node g) (sym e)) r) in
    h wide rising

pub returns-then-len-lt2-clause-none : goal.returns-then-len-lt2-clause-none
returns-then-len-lt2-clause-none t c = vertex_unordered c.args.tree.now c.in-Node.field-0 c.in-Node.inputs c.in-Node.inputs c.args.hole c.in-Node.is refl (λ w r. absurd (omega (arith, w.0)))

pub returns-in_default-clause-none : goal.returns-in_default-clause-none
returns-in_default-clause-none t c =
    let items = c.as_slice-input-items.result.now in
    vertex_unordered c.args.tree.now c.in-Node.field-0 items c.in-Node.inputs c.args.hole c.in-Node.is c.as_slice-input-items.ensures
    (λ w r. c.in_default.ensures.none (input_wide items c.loop-at.at c.input-item.result c.loop-at-test.true c.input-item.is w.1)
    ((next_input c.loop-at.floor c.loop-at.at items c.input-item.result (leaf c.args.hole) c.loop-at-test.true c.input-item.is).0 (c.loop-at.invariant.rest_of r)).0)

pub returns-then-from-floor-clause-none : goal.returns-then-from-floor-clause-none
returns-then-from-floor-clause-none t c =
    let items = c.as_slice-input-items.result.now in
    vertex_unordered c.args.tree.now c.in-Node.field-0 items c.in-Node.inputs c.args.hole c.in-Node.is c.as_slice-input-items.ensures
    (λ w r.
    let k = ((next_input c.loop-at.floor c.loop-at.at items c.input-item.result (leaf c.args.hole) c.loop-at-test.true c.input-item.is).0 (c.loop-at.invariant.rest_of r)).1 in
    absurd (omega (arith, k, c.in-Some.ensures.ordered.is_least, c.from.ensures, c.if-from-floor.true)))

pub loop-at-preserved : goal.loop-at-preserved
loop-at-preserved t c =
    let items = c.as_slice-input-items.result.now in
    let i = c.loop-at.at in
    let u = c.input-item.result in
    let x = leaf c.args.hole in
    let found = c.in-Some.ensures.ordered in
    let next = next_input c.loop-at.floor i items u x c.loop-at-test.true c.input-item.is in
    let high : c.from-floor.result + 1 ≡ suc (least (put (tree_of u) x)) = omega (arith, c.from-floor.ensures, found.is_least) in
    let above : c.loop-at.floor ≤ least (put (tree_of u) x) = omega (arith, c.from.ensures, c.if-from-floor.false, found.is_least) in
    record {
      wide = wide_more items i u c.loop-at-test.true c.input-item.is c.loop-at.invariant.wide found.wide;
      rest_of = λ r. subst (λ b. RisesFrom b (with_hole x (drop (i + 1) items))) (sym high) (next.0 (c.loop-at.invariant.rest_of r)).2;
      whole_of = λ r. c.loop-at.invariant.whole_of (next.1 found.rising above (subst (λ b. RisesFrom b (with_hole x (drop (i + 1) items))) high r));
      first = λ _. first_least items i u x c.loop-at.first c.in-Some.least c.first_or-first.result c.loop-at-test.true c.input-item.is found.is_least c.loop-at.invariant.first c.first_or-first.ensures.start c.first_or-first.ensures.later;
    }

pub returns-after-loop-at-clause-ordered : goal.returns-after-loop-at-clause-ordered
returns-after-loop-at-clause-ordered t c =
    let items = c.as_slice-input-items.result.now in
    let ts = c.in-Node.inputs in
    let g = c.in-Node.field-0 in
    let x = leaf c.args.hole in
    let two : 2 ≤ length ts = omega (arith, c.len.ensures, c.if-len-lt2.false) in
    let all : take c.loop-at.at items ≡ ts = take_all c.loop-at.at items c.loop-at-test.false ∙ c.as_slice-input-items.ensures in
    let rises : RisesFrom 0 (with_hole x ts) = subst (λ us. RisesFrom 0 (with_hole x us)) c.as_slice-input-items.ensures (c.loop-at.invariant.whole_of (no_more c.loop-at.floor c.loop-at.at items x c.loop-at-test.false)) in
    record {
      wide = subst (λ u. IsWide (tree_of u)) (sym c.in-Node.is) (wide-node g ts two (subst (AllByRecursion (λ u. IsWide (tree_of u))) all c.loop-at.invariant.wide));
      rising = subst (λ u. IsRising (put (tree_of u) x)) (sym c.in-Node.is) (rising-node g ts x two rises);
      is_least = c.loop-at.invariant.first (omega (arith, two, ap length c.as_slice-input-items.ensures, c.loop-at-test.false))
          ∙ ap (λ us. least_row (row (with_hole x us))) c.as_slice-input-items.ensures ∙ sym (least-node g ts x) ∙ ap (λ u. least (put (tree_of u) x)) (sym c.in-Node.is);
    }
