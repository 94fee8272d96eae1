use Rattle.std.proofs.Common.{◌≡◌, map, take}
use Rattle.shuffle_sums.specs.declared.sum.Term.{Term}
use Rattle.division.proofs.given.residues_of.Given as goal

abbrev pub invariant-loop-term : goal.invariant-loop-term
invariant-loop-term l = l.residues ≡ map (λ (term : Term). term.coef) (take l.term-index l.terms)
