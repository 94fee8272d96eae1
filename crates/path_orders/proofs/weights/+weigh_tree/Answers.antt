use Rattle.std.proofs.Common.{◌≡◌, ◌+◌, ◌<◌, ◌∙◌, ℕ, List, length, take, get_or, ap, sym, arith, rules}
use mathlib.Core.Path.{ap₂}
use Rattle.std.specs.List.{sum_by}
use Rattle.std.proofs.lemmas.List.{take_all}
use Rattle.std.proofs.lemmas.List.Sums.{sum_by_more_le}
use Rattle.labelled_trees.specs.Meaning.{tree_of}
use Rattle.labelled_trees.specs.Trees.{vertices}
use Rattle.labelled_trees.specs.declared.Tree as program
use Rattle.labelled_trees.specs.declared.Tree.TheVariants.{Node}
use Rattle.labelled_trees.specs.declared.Tree.TheViews.{the_lemmas}
use Rattle.shuffle_insertions.specs.Keys.{weight}
use Rattle.shuffle_trees.proofs.Counts.{fewer_inside}
use Rattle.path_orders.specs.SeenKeys.{weight_in}
use Rattle.path_orders.proofs.WeightSums.{weight_bound, weight-node}
use Rattle.path_orders.proofs.weights.+weigh_tree.Goals as goal

pub weigh_tree-sum-requires : goal.weigh_tree-sum-requires
weigh_tree-sum-requires t c =
    let ts = c.as_slice-input-items.result.now in
    let whole : vertices (tree_of c.args.tree.now) ≡ vertices (tree_of (Node c.in-Node.label ts)) = ap (λ u. vertices (tree_of u)) (c.in-Node.is ∙ ap (Node c.in-Node.label) (sym c.as_slice-input-items.ensures)) in
    let inside = fewer_inside c.in-Node.label ts c.loop-input.input-index c.input-item.result c.loop-input-test.true c.input-item.is in
    let small : vertices (tree_of c.input-item.result) < 4294967296 = omega (arith, whole, inside, c.requires) in
    search (rules, the_lemmas)

-- the sum so far, the weight of an input and those after it are within the weight of the vertex
within : (f : ℕ → ℕ) (small : (l : ℕ) → f l < 4294967296) (g : ℕ) (ts : List program.Tree) (i : ℕ) (t : program.Tree) (start sum next : ℕ) → i < length ts → t ≡ get_or ts i t → start ≡ f g
    → sum ≡ start + sum_by (λ u. weight f (tree_of u)) (take i ts) → next ≡ weight f (tree_of t) → vertices (tree_of (Node g ts)) < 4294967296 → sum + next < 340282366920938463463374607431768211456
within f small g ts i t start sum next lt e s before n few =
    let more = sum_by_more_le (λ (u : program.Tree). weight f (tree_of u)) ts i t lt in
    let here : weight f (tree_of t) ≡ weight f (tree_of (get_or ts i t)) = ap (λ (u : program.Tree). weight f (tree_of u)) e in
    let bound = weight_bound f small (tree_of (Node g ts)) in
    let whole = weight-node f g ts in
    omega (arith, more, here, bound, whole, s, before, n, few)

pub overflow_add-sum : goal.overflow_add-sum
overflow_add-sum t c =
    let ts = c.as_slice-input-items.result.now in
    let f = weight_in c.args.weights.now in
    let small : (l : ℕ) → weight_in c.args.weights.now l < 4294967296 = λ l. omega (arith, c.type_inv.weights l) in
    let whole : vertices (tree_of c.args.tree.now) ≡ vertices (tree_of (Node c.in-Node.label ts)) = ap (λ u. vertices (tree_of u)) (c.in-Node.is ∙ ap (Node c.in-Node.label) (sym c.as_slice-input-items.ensures)) in
    let fits : c.loop-input.sum + c.weigh_tree-sum.result < 340282366920938463463374607431768211456 =
    within f small c.in-Node.label ts c.loop-input.input-index c.input-item.result c.from-sum.result c.loop-input.sum c.weigh_tree-sum.result c.loop-input-test.true c.input-item.is
    (c.from-sum.ensures ∙ c.weight_of.ensures) c.loop-input.invariant c.weigh_tree-sum.ensures.sum (omega (arith, whole, c.requires)) in
    search rules

pub returns-after-loop-input : goal.returns-after-loop-input
returns-after-loop-input t c =
    let i = c.loop-input.input-index in
    let f = weight_in c.args.weights.now in
    let all : take i c.as_slice-input-items.result.now ≡ c.in-Node.inputs = take_all i c.as_slice-input-items.result.now c.loop-input-test.false ∙ c.as_slice-input-items.ensures in
    record {
      sum = c.loop-input.invariant ∙ ap₂ (λ m us. m + sum_by (λ u. weight f (tree_of u)) us) (c.from-sum.ensures ∙ c.weight_of.ensures) all ∙ sym (weight-node f c.in-Node.label c.in-Node.inputs) ∙ ap (λ u. weight f (tree_of u)) (sym c.in-Node.is);
    }
