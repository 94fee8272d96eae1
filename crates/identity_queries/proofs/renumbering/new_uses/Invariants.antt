use Rattle.std.proofs.Common.{◌≡◌, map, take}
use Rattle.identity_queries.specs.Renumbering.{number_in, renumbered_use}
use Rattle.identity_queries.proofs.renumbering.new_uses.Given as goal

abbrev pub invariant-loop-item : goal.invariant-loop-item
invariant-loop-item l = l.made ≡ map (renumbered_use (number_in l.numbers)) (take l.item-index l.uses)
