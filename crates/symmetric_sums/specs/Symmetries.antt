-- How symmetry rules are made.
use Rattle.std.specs.Prelude.{ℕ, ◌==◌, Option, Some, None, if◌then◌else◌}
use Rattle.operad_ideals.specs.Parts as math
use Rattle.symmetric_trees.specs.Spelling.{meaning_of}
use Rattle.symmetric_trees.specs.declared.spelling.Sign.{Sign}

-- what a sign means, where there is one
abbrev pub sign_meant : Option Sign → Option math.Sign
sign_meant (Some sign) = Some (meaning_of sign)
sign_meant None = None

-- the number n after the exchange of two numbers
abbrev pub exchanged : ℕ → ℕ → ℕ → ℕ
exchanged one other n = if n == one then other else if n == other then one else n
