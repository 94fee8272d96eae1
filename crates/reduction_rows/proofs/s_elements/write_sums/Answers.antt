use Rattle.shuffle_sums.specs.Settings.{compares, field_of}
use Rattle.shuffle_sums.proofs.Kept.{falls_kept}
use Rattle.reduction_rows.proofs.s_elements.write_sums.Goals as goal

pub write_s_element-requires-clause-one : goal.write_s_element-requires-clause-one
write_s_element-requires-clause-one g c =
    falls_kept c.spelled_sum.new.shelf c.spelled_sum-2.new.shelf c.in_ok-other.ensures.keeps c.in_ok-one.ensures.shelf (compares g.O.TreeOrder.weights g.O.TreeOrder.by_keys c.args.setting.now) (field_of c.args.setting.now) c.in_ok-one.one
    c.in_ok-one.ensures.falls
