use Rattle.std.proofs.Common.{◌+◌, ◌<◌, ◌∙◌, sym, ap, arith, rules}
use Rattle.std.specs.List.{sum_by}
use Rattle.std.proofs.lemmas.List.{take_all}
use Rattle.labelled_trees.specs.Leaves.{leaf_count}
use Rattle.tree_store.specs.Stores.{tree_at}
use Rattle.tree_store.proofs.Counts.{few_so_far, leaves_of_row}
use Rattle.tree_store.proofs.store.Store.count.Goals as goal

pub overflow_add-leaves : goal.overflow_add-leaves
overflow_add-leaves c =
    let few = few_so_far c.args.self.now c.args.inputs.now c.loop-input.input-index c.input-item.result c.requires.few c.loop-input-test.true c.input-item.is in
    let small : c.loop-input.leaves + c.leaves-leaves.result < 256 = omega (arith, few, c.loop-input.invariant, c.leaves-leaves.ensures.leaves) in
    search rules

pub returns-in-len1-up-clause-leaves : goal.returns-in-len1-up-clause-leaves
returns-in-len1-up-clause-leaves c =
    let all = take_all c.loop-input.input-index c.args.inputs.now c.loop-input-test.false in
    c.loop-input.invariant ∙ ap (sum_by (λ i. leaf_count (tree_at c.args.self.now i))) all ∙ sym (leaves_of_row c.args.self.now c.args.inputs.now)
