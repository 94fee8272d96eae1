use Rattle.std.proofs.Common.{◌≡◌, ℕ, ◌+◌, ◌<◌, ◌≤◌, ⊎_elim, List, get_or, replicate, arith, subst, min}
use Rattle.std.proofs.lemmas.List.{get_or-replicate}
use Rattle.labelled_trees.specs.Meaning.{tree_of}
use Rattle.labelled_trees.specs.Labelled.{IsNumbered}
use Rattle.labelled_trees.specs.Leaves.{occurs, leaf_count}
use Rattle.labelled_trees.specs.Trees.{Tree}
use Rattle.labelled_trees.proofs.Leaves.{at_leaf}
use Rattle.labelled_trees.proofs.Counts.{leaf_count-numbered, only_within}
use Rattle.symmetric_trees.proofs.Tables.{below_or_at}
use Rattle.symmetric_trees.proofs.arity.numbered.Goals as goal

pub returns-then-counts-gt255-clause-none : goal.returns-then-counts-gt255-clause-none
returns-then-counts-gt255-clause-none c n h =
    let leaves = leaf_count-numbered n (tree_of c.args.tree.now) h in
    let many : 255 < n = omega (arith, c.add.ensures.total, leaves) in
    let one = h.each 256 (omega arith) (omega (arith, many)) in
    let low : 256 < 256 = at_leaf (tree_of c.args.tree.now) (λ i. i < 256) 256 c.add.ensures.small (omega (arith, one)) in
    omega (arith, low)

-- the count at a label, which isn't at its last value
count_at : (times : List ℕ) (k : ℕ) (t : Tree ℕ) → k < 256 → min (get_or times k 0) 255 ≡ min (get_or (replicate 256 0) k 0 + occurs k t) 255 → min (get_or times k 0) 255 ≡ min (occurs k t) 255
count_at times k t l e = let zero = get_or-replicate {A = ℕ} 256 k 0 0 l in omega (arith, e, zero)

pub returns-then-counts-label-ne1-clause-none : goal.returns-then-counts-label-ne1-clause-none
returns-then-counts-label-ne1-clause-none c n h =
    let tree = tree_of c.args.tree.now in
    let label = c.loop-label.label in
    let leaves = leaf_count-numbered n tree h in
    let all : c.add.new.self.total ≡ n = omega (arith, c.add.ensures.total, leaves, c.if-counts-gt255.false) in
    let one = h.each label (omega (arith, c.loop-label.auto.label)) (omega (arith, all, c.loop-label-test.true)) in
    let count = count_at c.add.new.self.times label tree (omega (arith, all, c.loop-label-test.true, c.if-counts-gt255.false)) (c.add.ensures.times label (omega (arith, c.loop-label-test.true, c.if-counts-gt255.false))) in
    c.if-counts-label-ne1.true (omega (arith, count, one))

once_more : (times : List ℕ) (label total : ℕ) (t : Tree ℕ) → label ≤ total → total ≤ 255 → get_or times label 0 ≡ 1 → min (get_or times label 0) 255 ≡ min (occurs label t) 255
    → ((i : ℕ) → 0 < i → i < label → occurs i t ≡ 1) → (i : ℕ) → 0 < i → i < label + 1 → occurs i t ≡ 1
once_more times label total t a b one count before i p l =
    ⊎_elim (λ below. before i p below) (λ here. let e : occurs label t ≡ 1 = omega (arith, one, count) in subst (λ j. occurs j t ≡ 1) here e) (below_or_at i label l)

pub loop-label-preserved : goal.loop-label-preserved
loop-label-preserved c =
    let tree = tree_of c.args.tree.now in
    let label = c.loop-label.label in
    let small : label < 256 = omega (arith, c.loop-label-test.true, c.if-counts-gt255.false) in
    once_more c.add.new.self.times label c.add.new.self.total tree c.loop-label-test.true c.if-counts-gt255.false c.if-counts-label-ne1.false
    (count_at c.add.new.self.times label tree small (c.add.ensures.times label small)) c.loop-label.invariant

is_numbered : (t : Tree ℕ) (total : ℕ) → leaf_count t ≡ total → ((i : ℕ) → 0 < i → i ≤ total → occurs i t ≡ 1) → IsNumbered total t
is_numbered t total all each = record { each = each; only = only_within total t all each }

pub returns-else-counts-label-ne1-clause-numbered : goal.returns-else-counts-label-ne1-clause-numbered
returns-else-counts-label-ne1-clause-numbered c =
    let tree = tree_of c.args.tree.now in
    let label = c.loop-label.label in
    let small : label < 256 = omega (arith, c.loop-label-test.true, c.if-counts-gt255.false) in
    let each = once_more c.add.new.self.times label c.add.new.self.total tree c.loop-label-test.true c.if-counts-gt255.false c.if-counts-label-ne1.false
    (count_at c.add.new.self.times label tree small (c.add.ensures.times label small)) c.loop-label.invariant in
    is_numbered tree c.add.new.self.total (omega (arith, c.add.ensures.total, c.if-counts-gt255.false))
    (λ i a b. each i a (omega (arith, b)))

pub returns-else-counts-gt255-clause-numbered : goal.returns-else-counts-gt255-clause-numbered
returns-else-counts-gt255-clause-numbered c =
    let tree = tree_of c.args.tree.now in
    is_numbered tree c.add.new.self.total (omega (arith, c.add.ensures.total, c.if-counts-gt255.false))
    (λ i a b. c.loop-label.invariant i a (omega (arith, b, c.loop-label-test.false)))
