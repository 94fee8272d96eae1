use Rattle.std.proofs.Common.{◌≡◌, length, take}
use Rattle.identity_queries.specs.Renumbering.{AreNewPlaces}
use Rattle.identity_queries.proofs.renumbering.new_numbers.Given as goal

abbrev pub invariant-loop-number : goal.invariant-loop-number
invariant-loop-number l = record {
  place_is : l.place ≡ l.number-index;
  places : AreNewPlaces (take l.number-index l.found) l.numbers.items;
  long : length l.numbers.items ≡ l.count;
}
