use Rattle.std.proofs.Common.{◌≡◌, map, take}
use Rattle.division.specs.Given.{coefs_of, reducer_of}
use Rattle.division.proofs.given.given_of.Given as goal

abbrev pub invariant-loop-sum : goal.invariant-loop-sum
invariant-loop-sum g l = (l.reducers ≡ map (reducer_of l.shelf.trees) (take l.sum-index l.sum-items)) × (l.coefs ≡ map coefs_of (take l.sum-index l.sum-items))
