use Rattle.std.proofs.Common.{◌≡◌, take}
use mathlib.Core.List.{◌++◌}
use Rattle.normal_listing.proofs.found.push_all.Given as goal

abbrev pub invariant-loop-id : goal.invariant-loop-id
invariant-loop-id l = l.out ≡ l.fn.out ++ take l.id-index l.ids
