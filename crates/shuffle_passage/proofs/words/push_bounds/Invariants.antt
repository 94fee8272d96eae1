use Rattle.std.proofs.Common.{◌≡◌, ◌-◌, ◌≤◌, ◌++◌, ◌∷◌, false, replicate}
use Rattle.shuffle_passage.proofs.words.push_bounds.Given as goal

abbrev pub invariant-loop : goal.invariant-loop
invariant-loop l = record {
  bounds : l.bounds ≡ l.fn.bounds ++ false ∷ replicate (l.counter - 1) l.rising;
  begun : 1 ≤ l.counter;
}
