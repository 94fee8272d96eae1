use Rattle.shuffle_sums.specs.Settings.{compares, field_of}
use Rattle.shuffle_sums.proofs.Kept.{falls_kept}
use Rattle.reduction_rows.proofs.adding.write_both.Goals as goal

pub write_added-requires-clause-own : goal.write_added-requires-clause-own
write_added-requires-clause-own g c =
    falls_kept c.spelled_sum.new.shelf c.spelled_sum-2.new.shelf c.in_ok-other.ensures.keeps c.in_ok-sum.ensures.shelf (compares g.O.TreeOrder.weights g.O.TreeOrder.by_keys c.args.setting.now) (field_of c.args.setting.now) c.in_ok-sum.sum
    c.in_ok-sum.ensures.falls
