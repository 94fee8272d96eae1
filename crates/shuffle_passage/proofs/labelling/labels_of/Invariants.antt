use Rattle.std.proofs.Common.{◌≡◌, map, take}
use Rattle.shuffle_passage.specs.LabelKinds.{kind_in}
use Rattle.shuffle_passage.proofs.labelling.labels_of.Given as goal

abbrev pub invariant-loop-index : goal.invariant-loop-index
invariant-loop-index l = l.kinds.items ≡ map kind_in (take l.index l.table)
