use Rattle.std.proofs.Common.{◌≡◌, map, take}
use Rattle.shuffle_sums.specs.Entries.{position}
use Rattle.shuffle_sums.proofs.sorting.positions.Given as goal

abbrev pub invariant-loop-entry : goal.invariant-loop-entry
invariant-loop-entry l = l.made.items ≡ map position (take l.entry-index l.entries)
