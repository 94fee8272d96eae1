use Rattle.std.proofs.Common.{◌+◌, ◌-◌, ◌*◌, ◌∷◌, map, take}
use Rattle.std.specs.List.{flat_map}
use Rattle.normal_listing.specs.Choices.{choices}
use Rattle.normal_listing.proofs.Chosen.{from_part}
use Rattle.normal_listing.proofs.Walked.{IsWalking}
use Rattle.normal_listing.proofs.choosing.+choosing.Given as goal

abbrev pub decreases-choose : goal.decreases-choose
decreases-choose l = 2 * l.count

abbrev pub decreases-choose_own : goal.decreases-choose_own
decreases-choose_own l = 2 * l.count + 1

abbrev pub invariant-choose-loop-part : goal.invariant-choose-loop-part
invariant-choose-loop-part l =
    IsWalking l.root (flat_map (from_part l.tables.ids.now l.tables.parted.now (l.count - 1)) (take l.part-index l.part-items)) l.fn.chosen l.chosen l.fn.parts l.parts l.fn.found l.found

abbrev pub invariant-choose_own-loop-at : goal.invariant-choose_own-loop-at
invariant-choose_own-loop-at l =
    IsWalking l.root (flat_map (λ id. map (λ r. id ∷ r) (choices l.tables.ids.now l.tables.parted.now l.count l.part.others)) (take l.at l.ids)) l.fn.chosen l.chosen l.fn.parts l.parts l.fn.found l.found
