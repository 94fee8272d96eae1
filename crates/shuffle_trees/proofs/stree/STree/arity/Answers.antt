use Rattle.std.proofs.Common.{◌≡◌, ◌≤◌, ◌∙◌, ℕ, true, false, ap, sym, subst, arith, refl}
use Rattle.labelled_trees.specs.Meaning.{tree_of}
use Rattle.labelled_trees.specs.Trees.{Tree}
use Rattle.labelled_trees.specs.Leaves.{AllLeaves, leaf_count}
use Rattle.shuffle_insertions.specs.ShuffleTrees.{IsShuffle}
use Rattle.shuffle_trees.proofs.Counts.{few_leaves, shuffle_by_count, within_of_shuffle}
use Rattle.shuffle_trees.proofs.stree.STree.arity.Goals as goal

pub count_leaves-leaves-requires : goal.count_leaves-leaves-requires
count_leaves-leaves-requires c = let few = few_leaves c.args.self.now c.shape.ensures.valid in let same = ap leaf_count c.shape.ensures.shape in omega (arith, few, same)

-- the count of leaves as that of the tree
counted : (x y t : Tree ℕ) (n : ℕ) → n ≡ leaf_count x → x ≡ t → y ≡ t → AllLeaves y (λ i. i ≤ n) → AllLeaves t (λ i. i ≤ leaf_count t)
counted x y t n e f g h = subst (λ u. AllLeaves u (λ i. i ≤ leaf_count t)) g (subst (λ m. AllLeaves y (λ i. i ≤ m)) (e ∙ ap leaf_count f) h)

uncounted : (x y t : Tree ℕ) (n : ℕ) → n ≡ leaf_count x → x ≡ t → y ≡ t → AllLeaves t (λ i. i ≤ leaf_count t) → AllLeaves y (λ i. i ≤ n)
uncounted x y t n e f g h = subst (λ m. AllLeaves y (λ i. i ≤ m)) (sym (e ∙ ap leaf_count f)) (subst (λ u. AllLeaves u (λ i. i ≤ leaf_count t)) (sym g) h)

pub returns-then-are_within-clause-shuffle : goal.returns-then-are_within-clause-shuffle
returns-then-are_within-clause-shuffle c =
    let x = tree_of c.shape.result.now in
    let y = tree_of c.shape-2.result.now in
    let t = c.args.self.now in
    let within = counted x y t c.count_leaves-leaves.result c.count_leaves-leaves.ensures c.shape.ensures.shape c.shape-2.ensures.shape (c.if-are_within.ensures.0 refl) in
    subst (λ n. IsShuffle n t) (sym (c.count_leaves-leaves.ensures ∙ ap leaf_count c.shape.ensures.shape)) (shuffle_by_count t c.shape.ensures.valid within)

pub returns-else-are_within-clause-none : goal.returns-else-are_within-clause-none
returns-else-are_within-clause-none c n h =
    let x = tree_of c.shape.result.now in
    let y = tree_of c.shape-2.result.now in
    let no : false ≡ true = c.if-are_within.ensures.1 (uncounted x y c.args.self.now c.count_leaves-leaves.result c.count_leaves-leaves.ensures c.shape.ensures.shape c.shape-2.ensures.shape (within_of_shuffle n c.args.self.now h)) in
    cc
