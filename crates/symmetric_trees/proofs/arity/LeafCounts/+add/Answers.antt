use Rattle.std.proofs.Common.{◌≡◌, ◌∙◌, ℕ, ◌+◌, ◌-◌, ◌^◌, sym, ap, subst, min, take}
use Rattle.std.specs.Prelude.{slice_index}
use Rattle.std.proofs.lemmas.List.{take_all}
use Rattle.std.specs.List.{sum_by, AllByRecursion}
use Rattle.labelled_trees.specs.Meaning.{tree_of}
use Rattle.labelled_trees.specs.Leaves.{AllLeaves, sum_leaves}
use Rattle.labelled_trees.proofs.ProgramTrees.{sum_leaves-node, all_leaves-node}
use Rattle.symmetric_trees.proofs.arity.LeafCounts.+add.Goals as goal

pub returns-after-loop-input : goal.returns-after-loop-input
returns-after-loop-input t c =
    let i = c.loop-input.input-index in
    let ts = c.in-Node.inputs in
    let all : take i c.as_slice-input-items.result.now ≡ ts = take_all i c.as_slice-input-items.result.now c.loop-input-test.false ∙ c.as_slice-input-items.ensures in
    let vertex : (f : ℕ → ℕ) → sum_by (λ u. sum_leaves (tree_of u) f) (take i c.as_slice-input-items.result.now) ≡ sum_leaves (tree_of c.args.tree.now) f
    = λ f. ap (sum_by (λ u. sum_leaves (tree_of u) f)) all ∙ sym (sum_leaves-node c.in-Node.field-0 ts f) ∙ ap (λ u. sum_leaves (tree_of u) f) (sym c.in-Node.is) in
    record {
      times = λ k l. c.loop-input.invariant.times k l ∙ ap (λ n. min (slice_index c.args.self.now.times k + n) 255) (vertex _);
      total = c.loop-input.invariant.total ∙ ap (λ n. min (c.args.self.now.total + n) (2 ^ 32 - 1)) (vertex (λ a. 1));
      small = subst (λ u. AllLeaves (tree_of u) _) (sym c.in-Node.is) (all_leaves-node c.in-Node.field-0 ts _ (subst (AllByRecursion _) all c.loop-input.invariant.small));
    }
