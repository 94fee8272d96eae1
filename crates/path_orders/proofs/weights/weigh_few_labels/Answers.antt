use Rattle.std.proofs.Common.{ℕ, ◌<◌, arith, rules}
use Rattle.path_orders.specs.SeenKeys.{weight_in}
use Rattle.path_orders.proofs.WeightSums.{sum_bound}
use Rattle.path_orders.proofs.weights.weigh_few_labels.Goals as goal

pub overflow_cast-result : goal.overflow_cast-result
overflow_cast-result c =
    let f = weight_in c.args.weights.now in
    let small : (l : ℕ) → weight_in c.args.weights.now l < 4294967296 = λ l. omega (arith, c.type_inv.weights l) in
    let bound = sum_bound f small c.args.labels.now in
    let fits : c.weigh_labels.result < 18446744073709551616 = omega (arith, bound, c.requires, c.weigh_labels.ensures.sum) in
    search rules
