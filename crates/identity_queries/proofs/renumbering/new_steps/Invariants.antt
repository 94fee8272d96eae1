use Rattle.std.proofs.Common.{◌≡◌, take}
use Rattle.identity_queries.specs.Renumbering.{number_in, steps_at}
use Rattle.identity_queries.proofs.renumbering.new_steps.Given as goal

abbrev pub invariant-loop-number : goal.invariant-loop-number
invariant-loop-number l = l.made ≡ steps_at (number_in l.numbers) l.entries (take l.number-index l.found)
