use Rattle.std.proofs.Common.{◌≡◌, take}
use Rattle.normal_listing.specs.Parting.{with_last}
use Rattle.normal_listing.proofs.parting.part_with_last.Given as goal

abbrev pub invariant-loop-part : goal.invariant-loop-part
invariant-loop-part l = l.parts ≡ with_last l.below l.unit (take l.part-index l.before)
