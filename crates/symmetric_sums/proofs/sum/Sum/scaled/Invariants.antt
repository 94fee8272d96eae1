use Rattle.std.proofs.Common.{◌≡◌, ◌*◌, ◌%◌, map, take}
use Rattle.symmetric_sums.proofs.sum.Sum.scaled.Given as goal

abbrev pub invariant-loop-term : goal.invariant-loop-term
invariant-loop-term l = l.terms ≡ map (λ term. record { coef = (l.coef * term.coef) % l.field; tree = term.tree }) (take l.term-index l.term-items)
