use Rattle.std.proofs.Common.{◌≡◌, ◌-◌, ◌^◌, length}
use Rattle.shuffle_sums.specs.Shelves.{KeepsShelf}
use Rattle.division.proofs.Meeting.{IsGathering}
use Rattle.division.proofs.gathering.gather.Given as goal

abbrev pub invariant-each : goal.invariant-each
invariant-each l =
    (KeepsShelf l.fn.shelf l.shelf × (l.shelf.whole ≡ l.fn.shelf.whole))
    × IsGathering l.fn.shelf.trees l.shelf.trees l.reducers l.groups l.fn.found l.found l.kept l.places l.fn.ids l.ids l.tails

abbrev pub decreases-each : goal.decreases-each
decreases-each l = 2 ^ 64 - length l.tails
