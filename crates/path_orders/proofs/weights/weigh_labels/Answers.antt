use Rattle.std.proofs.Common.{◌+◌, ◌<◌, ℕ, arith, rules}
use Rattle.std.proofs.lemmas.List.Sums.{sum_by_more_le}
use Rattle.path_orders.specs.SeenKeys.{weight_in}
use Rattle.path_orders.proofs.WeightSums.{sum_bound}
use Rattle.path_orders.proofs.weights.weigh_labels.Goals as goal

pub overflow_add-sum : goal.overflow_add-sum
overflow_add-sum c =
    let f = weight_in c.args.weights.now in
    let labels = c.args.labels.now in
    let small : (l : ℕ) → weight_in c.args.weights.now l < 4294967296 = λ l. omega (arith, c.type_inv.weights l) in
    let more = sum_by_more_le f labels c.loop-label.label-index 0 c.loop-label-test.true in
    let bound = sum_bound f small labels in
    let fits : c.loop-label.sum + c.from-sum.result < 340282366920938463463374607431768211456 = omega (arith, more, bound, c.requires, c.loop-label.invariant, c.from-sum.ensures, c.weight_of.ensures) in
    search rules
