use Rattle.std.specs.List.{All}
use Rattle.normal_listing.specs.Parting.{BothBelow}
use Rattle.log_rows.proofs.parts.parts_below.Given as goal

abbrev pub invariant-loop-at : goal.invariant-loop-at
invariant-loop-at l = All (BothBelow l.unit) l.parts.items
