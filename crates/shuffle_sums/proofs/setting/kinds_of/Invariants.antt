use Rattle.std.proofs.Common.{◌≡◌, map, take}
use Rattle.shuffle_sums.specs.LabelArities.{arity_and_count}
use Rattle.shuffle_sums.proofs.setting.kinds_of.Given as goal

abbrev pub invariant-loop-index : goal.invariant-loop-index
invariant-loop-index l = l.kinds.items ≡ map arity_and_count (take l.index l.table)
