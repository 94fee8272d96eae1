-- The rank of a thing in a list: how many things of the list are less.
use Rattle.std.specs.Prelude.{ℕ, ◌+◌, List, [], ◌∷◌}
use Rattle.std.proofs.Common.{Bool, true, false}

-- 1 for true, 0 for false
abbrev pub bit : Bool → ℕ
bit true = 1
bit false = 0

-- how many things of the list are less than t
abbrev pub count_less : {X : Type 0} → (X → X → Bool) → List X → X → ℕ
count_less less [] t = 0
count_less less (x ∷ l) t = bit (less x t) + count_less less l t
