use Rattle.std.proofs.Common.{◌≡◌, ℕ, ◌+◌, ◌<◌, ◌≤◌, List, length, get_or, sym, ◌∙◌, ap, subst, take, arith, refl}
use Rattle.std.proofs.lemmas.List.{take_all}
use Rattle.std.proofs.lemmas.List.Sums.{sum_by_more_le}
use Rattle.std.specs.Prelude.{slice_index}
use Rattle.std.specs.List.{sum_by, AllByRecursion}
use native.Mathlib.Decide.{ℕ_discrete}
use Rattle.labelled_trees.specs.Meaning.{tree_of}
use Rattle.labelled_trees.specs.Leaves.{AllLeaves, occurs, one_if}
use Rattle.labelled_trees.specs.declared.Tree as program
use Rattle.labelled_trees.specs.declared.Tree.TheVariants.{Node}
use Rattle.labelled_trees.proofs.ProgramTrees.{sum_leaves-node, all_leaves-node}
use Rattle.shuffle_trees.proofs.checks.+count_once.Goals as goal

-- what an input brings beside the inputs before it is within what the vertex brings
within : (before times : List ℕ) (g : ℕ) (items ts : List program.Tree) (i k : ℕ) (u : program.Tree) → items ≡ ts → i < length items → u ≡ get_or items i u
    → slice_index times k ≡ slice_index before k + sum_by (λ t. occurs k (tree_of t)) (take i items)
    → slice_index times k + occurs k (tree_of u) ≤ slice_index before k + occurs k (tree_of (Node g ts))
within before times g items ts i k u e lt is c =
    let more = sum_by_more_le (λ t. occurs k (tree_of t)) items i u lt in
    let here : occurs k (tree_of u) ≡ occurs k (tree_of (get_or items i u)) = ap (λ t. occurs k (tree_of t)) is in
    let whole : occurs k (tree_of (Node g ts)) ≡ sum_by (λ t. occurs k (tree_of t)) items = sum_leaves-node g ts (λ n. one_if (ℕ_discrete n k)) ∙ ap (sum_by (λ t. occurs k (tree_of t))) (sym e) in
    omega (arith, more, here, whole, c)

pub returns-then-not-count_once-clause-twice : goal.returns-then-not-count_once-clause-twice
returns-then-not-count_once-clause-twice t c _ h = c.if-not-count_once.ensures.twice refl (λ k lt.
    let w = within c.args.times.now c.loop-input.times c.in-Node.field-0 c.as_slice-input-items.result.now c.in-Node.inputs c.loop-input.input-index k c.input-item.result
    c.as_slice-input-items.ensures c.loop-input-test.true c.input-item.is (c.loop-input.invariant.counts k lt) in
    let here = h k lt in
    let same : occurs k (tree_of c.args.tree.now) ≡ occurs k (tree_of (Node c.in-Node.field-0 c.in-Node.inputs)) = ap (λ u. occurs k (tree_of u)) c.in-Node.is in
    omega (arith, w, here, same))

pub returns-after-loop-input-clause-added : goal.returns-after-loop-input-clause-added
returns-after-loop-input-clause-added t c _ =
    let i = c.loop-input.input-index in
    let ts = c.in-Node.inputs in
    let all : take i c.as_slice-input-items.result.now ≡ ts = take_all i c.as_slice-input-items.result.now c.loop-input-test.false ∙ c.as_slice-input-items.ensures in
    let vertex : (k : ℕ) → sum_by (λ u. occurs k (tree_of u)) (take i c.as_slice-input-items.result.now) ≡ occurs k (tree_of c.args.tree.now)
    = λ k. ap (sum_by (λ u. occurs k (tree_of u))) all ∙ sym (sum_leaves-node c.in-Node.field-0 ts (λ n. one_if (ℕ_discrete n k))) ∙ ap (λ u. occurs k (tree_of u)) (sym c.in-Node.is) in
    record {
      counts = λ k l. c.loop-input.invariant.counts k l ∙ ap (λ n. slice_index c.args.times.now k + n) (vertex k);
      small = subst (λ u. AllLeaves (tree_of u) (λ i. i < 256)) (sym c.in-Node.is) (all_leaves-node c.in-Node.field-0 ts (λ i. i < 256) (subst (AllByRecursion (λ u. AllLeaves (tree_of u) (λ i. i < 256))) all c.loop-input.invariant.small));
      once = c.loop-input.invariant.once;
    }
