use Rattle.std.proofs.Common.{◌≡◌, ◌++◌, length}
use Rattle.presentation_text.specs.Tokens as spec
use Rattle.presentation_text.proofs.lexing.tokens.Given as goal

abbrev pub decreases-loop-rest : goal.decreases-loop-rest
decreases-loop-rest l = length l.rest

abbrev pub invariant-loop-rest : goal.invariant-loop-rest
invariant-loop-rest l = l.found.items ++ spec.tokens l.rest ≡ spec.tokens l.line
