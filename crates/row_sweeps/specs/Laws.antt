-- What rests are good for.
use Rattle.std.specs.Prelude.{ℕ, ◌<◌, List, ◌∷◌}
use Rattle.std.proofs.Common.{suc}
use Rattle.std.specs.Ordering.{nat_cmp}
use Rattle.modular_sums.specs.Sums.{AllTerms}
use Rattle.modular_sums.specs.Falling.{IsFalling}
use Rattle.modular_sums.specs.RuleTables.{IsRuleTail}

-- A falling sum on positions below one is a tail for it; so is what follows the first term of a falling sum for the position of that term.
abbrev pub FallingTails : Type 0
FallingTails = (q : ℕ)
    → ((at : ℕ) (l : List (ℕ × ℕ)) → IsFalling nat_cmp (suc q) l → AllTerms l (λ t. t < at) → IsRuleTail q at l)
    × ((x : ℕ × ℕ) (l : List (ℕ × ℕ)) → IsFalling nat_cmp (suc q) (x ∷ l) → IsRuleTail q x.1 l)
