use Rattle.std.proofs.Common.{map, take}
use Rattle.division.specs.Parts.{built}
use Rattle.division.proofs.Builds.{IsBuilding}
use Rattle.division.proofs.building.+build.Given as goal

abbrev pub decreases-build : goal.decreases-build
decreases-build l = l.tree

abbrev pub invariant-loop-input : goal.invariant-loop-input
invariant-loop-input l =
    IsBuilding l.fn.shelf l.shelf (built l.fn.shelf.trees l.parts l.fn.tree) (map (built l.fn.shelf.trees l.parts) (take l.input-index l.input-items)) l.ids.items
